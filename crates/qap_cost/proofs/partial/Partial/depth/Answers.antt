use Rattle.std.proofs.Common.{◌≡◌, length, arith, rules, subst}
use Rattle.qap_cost.specs.Placement.{IsPlacement}
use Rattle.qap_cost.proofs.Placements.{IsPlacement-depth}
use Rattle.qap_cost.proofs.partial.Partial.depth.Goals as goal

pub returns-clause-within : goal.returns-clause-within
returns-clause-within c =
    let h : IsPlacement c.args.self.now = subst IsPlacement c.self.view_is c.self.invariant in
    let count : c.len.result ≡ length c.args.self.now.facilities = search rules in
    omega (arith, count, IsPlacement-depth c.args.self.now h)
