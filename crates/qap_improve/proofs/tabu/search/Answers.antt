use Rattle.std.proofs.Common.{List, ℕ, arith, ap, get_or, ◌∙◌}
use Rattle.std.proofs.lemmas.Int.{ints}
use Rattle.qap_improve.proofs.Movings.{KeepsOthers-same}
use Rattle.qap_improve.proofs.tabu.search.Goals as goal

pub loop-init : goal.loop-init
loop-init g c =
    let walk = c.in_ok-walk.walk in
    let below = c.kick.ensures.no_dearer in
    let cost = c.in_ok-walk.ensures.cost in
    record {
      walk = c.kick.ensures.walk;
      size = c.kick.ensures.size;
      kept = c.kick.ensures.kept c.args.start.now (record {
        here = KeepsOthers-same c.args.may_move.now c.args.start.now walk.arrangement.locations.items c.in_ok-walk.ensures.here;
        best = KeepsOthers-same c.args.may_move.now c.args.start.now walk.best.items c.in_ok-walk.ensures.best;
      });
      no_dearer = omega (arith, ints, below, cost);
    }

pub loop-preserved : goal.loop-preserved
loop-preserved g c =
    let below = c.step.ensures.no_dearer in
    let so_far = c.loop.invariant.no_dearer in
    record {
      walk = c.step.ensures.walk;
      size = c.step.ensures.size;
      kept = c.step.ensures.kept c.args.start.now c.loop.invariant.kept;
      no_dearer = omega (arith, ints, below, so_far);
    }

pub returns-clause-kept : goal.returns-clause-kept
returns-clause-kept g c =
    λ f below fixed.
    ap (λ (l : List ℕ). get_or l f 0) c.best_of.ensures.permutation
    ∙ c.loop.invariant.kept.best f below fixed
