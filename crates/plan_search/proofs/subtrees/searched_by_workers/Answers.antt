use Rattle.std.proofs.Common.{◌≡◌, ℤ, ◌≤ℤ◌, of_z, rules, subst, to_z}
use Rattle.std.specs.Int.{w128}
use Rattle.qap_cost.specs.Objective.{cost_of}
use Rattle.plan_search.proofs.subtrees.searched_by_workers.Goals as goal

pub returns-clause-searched : goal.returns-clause-searched
returns-clause-searched g c =
    let with = c.with_bound.ensures in
    let low = c.in_ok-bound.bound in
    let same : to_z w128 (of_z w128 low) ≡ low = search rules in
    let found = c.in_ok-found.ensures.searched in
    rw (with.permutation, with.cost) (record {
      permutes = found.permutes;
      costs = found.costs;
      no_dearer = found.no_dearer;
      none_less = λ q completes. with.none_less (cost_of c.args.instance.now q) (found.none_less q completes) (rw (same) (c.in_ok-bound.ensures.least q completes));
      at_most = with.at_most;
    })
