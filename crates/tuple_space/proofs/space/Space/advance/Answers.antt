use Rattle.std.proofs.Common.{◌∙◌, ap, arith}
use Rattle.tuple_space.specs.Entry.{is_there}
use Rattle.tuple_space.proofs.HeldLemmas.{held_filter, there_free}
use Rattle.tuple_space.specs.Space.{advanced}
use Rattle.tuple_space.proofs.EndLemmas.{advanced_to, watched_later}
use Rattle.tuple_space.proofs.SpaceLemmas.{IsSpace-filter}
use Rattle.tuple_space.proofs.space.Space.advance.Goals as goal

pub drop_ended-requires-clause-watched : goal.drop_ended-requires-clause-watched
drop_ended-requires-clause-watched c =
    let s = c.self.inside in
    watched_later s.ends.rows s.moment c.args.moment s.entries.items (omega arith) c.self.invariant.3

pub invariant_of-self : goal.invariant_of-self
invariant_of-self c =
    let s = c.self.inside in
    rw c.drop_ended.ensures.there (
      IsSpace-filter (is_there c.args.moment) s.entries.items s.moment s.last c.args.moment (omega arith) c.self.invariant.0,
      held_filter (is_there c.args.moment) s.held.items s.entries.items (there_free c.args.moment s.entries.items) c.self.invariant.1,
      rw c.drop_ended.ensures.there at c.drop_ended.ensures.indexed,
      rw c.drop_ended.ensures.there at c.drop_ended.ensures.watched,
    )

pub returns : goal.returns
returns c =
    let s = c.self.inside in
    record { step = (omega arith, advanced_to c.args.moment s.moment s.last s.entries.items c.drop_ended.new.entries.items (omega arith) c.drop_ended.ensures.there ∙ ap (advanced c.args.moment) c.self.view_is) }
