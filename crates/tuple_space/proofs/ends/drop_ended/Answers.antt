use Rattle.std.proofs.Common.{◌∙◌, ◌<◌, subst, sym}
use Rattle.tuple_space.specs.Ends.{count_come}
use Rattle.tuple_space.proofs.EndLemmas.{come_less, watched_but, watched_there}
use Rattle.tuple_space.proofs.ends.drop_ended.Goals as goal

pub settle-requires-clause-others : goal.settle-requires-clause-others
settle-requires-clause-others c =
    watched_but c.args.moment c.in-Some.number c.loop-number.ends.rows c.take_come.new.self.rows c.loop-number.entries.items c.in-Some.ensures.some c.loop-number.invariant.watched

pub loop-number-smaller : goal.loop-number-smaller
loop-number-smaller c =
    subst (λ n. n < count_come c.args.moment c.loop-number.ends.rows) (sym c.settle.ensures.come)
    (come_less c.args.moment c.in-Some.number c.loop-number.ends.rows c.take_come.new.self.rows c.in-Some.ensures.some)

pub returns-clause-there : goal.returns-clause-there
returns-clause-there c =
    let es = c.loop-number.entries.items in
    sym (watched_there c.args.moment c.loop-number.ends.rows es (rw c.in_default.ensures.same at c.in_default.ensures.none) c.loop-number.invariant.watched) ∙ c.loop-number.invariant.there
