use Rattle.std.proofs.Common.{◌≡◌, List, Some, of_z, rules, subst, to_z, ℕ}
use Rattle.std.specs.Int.{w128}
use Rattle.plan_search.specs.Keeping.{IsKept}
use Rattle.qap_plan.proofs.commands.compare.compared.Goals as goal

pub returns : goal.returns
returns g c =
    let P = c.args.problem.now in
    let best = c.in_ok-best.best in
    let bound : to_z w128 (of_z w128 best.bound) ≡ best.bound = search rules in
    record {
      kept = subst (λ (p : List ℕ). IsKept P.instance P.fixed (Some p) best.permutation best.cost best.bound) c.in_ok-copy.ensures c.in_ok-best.ensures.kept;
      told = rw bound at c.in_ok-text.ensures;
    }
