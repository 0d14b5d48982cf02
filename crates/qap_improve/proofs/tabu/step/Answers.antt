use Rattle.std.proofs.Common.{arith}
use Rattle.qap_improve.proofs.Costs.{cost_of-bounded}
use Rattle.qap_improve.proofs.Movings.{WalkKeeps-exchanged}
use Rattle.qap_improve.proofs.Readings.{fits_large_less}
use Rattle.qap_improve.proofs.tabu.step.Goals as goal

pub overflow_sub-walk : goal.overflow_sub-walk
overflow_sub-walk g c =
    let I = c.args.instance.now in
    let walk = c.args.walk.now in
    let w = c.requires.walk in
    let best = cost_of-bounded I walk.best.items w.instance w.best in
    let here = cost_of-bounded I walk.arrangement.locations.items w.instance w.arrangement.permutation in
    fits_large_less walk.best_cost walk.cost (rw (w.best_cost) (omega (arith, best))) (rw (w.cost) (omega (arith, here)))

pub returns-in-Some-clause-kept : goal.returns-in-Some-clause-kept
returns-in-Some-clause-kept g c =
    let choice = c.in-Some.choice in
    let pair = c.in-Some.ensures.pair in
    λ start kept.
    c.keep_if_best.ensures.kept c.args.may_move.now start
    (WalkKeeps-exchanged c.args.may_move.now start c.args.walk.now c.make_exchange.new.walk choice.first choice.second c.make_exchange.ensures.here c.make_exchange.ensures.best pair.first_moves pair.second_moves kept)
