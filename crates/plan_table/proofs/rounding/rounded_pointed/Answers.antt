use Rattle.std.proofs.Common.{◌≡◌, ◌∙◌, true, sym}
use Rattle.std.specs.List.{list_all}
use Rattle.plan_table.specs.Decimal.{are_digits, is_digit}
use Rattle.std.proofs.Common.{ap}
use Rattle.plan_table.proofs.LeastPlaces.{and_parts}
use Rattle.plan_table.proofs.Spelt.{without_zeros-digits}
use Rattle.plan_table.proofs.rounding.rounded_pointed.Goals as goal

pub rounded_digits-requires : goal.rounded_digits-requires
rounded_digits-requires c =
    let some : are_digits c.args.fraction.now ≡ true = sym c.if-are_digits-2.ensures in
    let all = (and_parts _ _ some).1 in
    ap (list_all is_digit) c.without_zeros.ensures ∙ without_zeros-digits c.args.fraction.now all
