use Rattle.std.proofs.Common.{◌+◌, subst, sym, ◌++◌}
use Rattle.std.specs.Prelude.{IsPermutation}
use Rattle.std.proofs.lemmas.Bool.{cond-false}
use Rattle.tuple_space.specs.Ends.{AreWatched, ending}
use Rattle.tuple_space.specs.Lease.{granted}
use Rattle.tuple_space.specs.Space.{SpaceValue, put}
use Rattle.tuple_space.proofs.EndLemmas.{kept_noted, put_noted}
use Rattle.tuple_space.proofs.ends.note_write.Goals as goal

pub returns-clause-kept : goal.returns-clause-kept
returns-clause-kept c = λ e. kept_noted (granted c.args.moment c.args.write.now.lease) (c.args.last + 1) c.args.ends.now.rows c.note.new.self.rows
    (subst (λ end. IsPermutation (ending end (c.args.last + 1) ++ c.args.ends.now.rows) c.note.new.self.rows) c.granted.ensures c.in_ok-note.ensures.ok) e

pub returns-clause-watched : goal.returns-clause-watched
returns-clause-watched c = λ w last moment all.
    let x = c.args.write.now in
    subst (λ (v : SpaceValue). AreWatched c.note.new.self.rows c.args.moment v.entries) (sym (cond-false x.taken w (put w x.tuple x.lease) c.if-write.false))
    (put_noted c.args.ends.now.rows c.note.new.self.rows w x.tuple x.lease c.args.last c.args.moment last moment
    (subst (λ end. IsPermutation (ending end (c.args.last + 1) ++ c.args.ends.now.rows) c.note.new.self.rows) c.granted.ensures c.in_ok-note.ensures.ok) all)
