use Rattle.std.proofs.Common.{◌≡◌, of_z, rules, to_z}
use Rattle.std.specs.Int.{w128}
use Rattle.plan_check.proofs.telling.checked_line.Goals as goal

pub returns : goal.returns
returns c =
    let least = c.cost-cost.result in
    let low = c.in_ok-bound.bound in
    let cost : to_z w128 (of_z w128 least) ≡ least = search rules in
    let bound : to_z w128 (of_z w128 low) ≡ low = search rules in
    rw c.in-Some.is (record {
      bound = low;
      proved = c.in_ok-bound.ensures.proved;
      told = rw (cost, bound, c.cost-cost.ensures.value) at c.in_ok-verdict_text.ensures;
    })
