use Rattle.std.proofs.Common.{◌≡◌, ◌-◌, ◌^◌, ◌≤◌, arith, pos, rules, subst, sym}
use Rattle.std.specs.Int.{w64}
use Rattle.std.specs.Prelude.{FitsSigned}
use Rattle.std.proofs.Math.Nat.{pow-le-pow_right}
use Rattle.std.proofs.lemmas.Int.{to_z-of_z}
use Rattle.qap_cost.specs.Range.{InRange}
use Rattle.plan_file.proofs.charges.weight_of.Goals as goal

pub returns-clause-range : goal.returns-clause-range
returns-clause-range c =
    let power = c.args.fraction - c.args.scale in
    let is : c.power_of_ten.result ≡ pos (10 ^ power) = search rules in
    let few : power ≤ 9 = omega arith in
    let fits : FitsSigned w64 c.power_of_ten.result = search rules in
    let ranged : InRange c.power_of_ten.result = subst InRange (sym is) (pow-le-pow_right {n = 10} (omega arith) {i = power} {j = 9} few) in
    subst InRange (sym (to_z-of_z w64 c.power_of_ten.result fits)) ranged
