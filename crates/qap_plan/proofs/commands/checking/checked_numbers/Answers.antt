use Rattle.std.proofs.Common.{◌≡◌, of_z, rules, to_z}
use Rattle.std.specs.Int.{w128}
use Rattle.qap_cost.specs.Placement.{root_of}
use Rattle.qap_plan.proofs.commands.checking.checked_numbers.Goals as goal

pub returns : goal.returns
returns c =
    let least = c.cost-cost.result in
    let low = c.in_ok-bound.bound in
    let cost : to_z w128 (of_z w128 least) ≡ least = search rules in
    let bound : to_z w128 (of_z w128 low) ≡ low = search rules in
    let root : c.in_ok-root.root ≡ root_of c.args.instance.now.size = rw c.size.ensures.value at c.in_ok-root.ensures.value in
    let line = rw (cost, bound, c.cost-cost.ensures.value) at c.in_ok-verdict_line.ensures in
    rw c.in-Some.is (record {
      bound = low;
      proved = rw root at c.in_ok-bound.ensures.proved;
      told = rw c.into_bytes-2.ensures.value line;
    })
