use Rattle.std.proofs.Common.{◌≡◌, ◌-◌, ◌++◌, ◌∙◌, true, arith, length, rules, sym}
use Rattle.std.specs.List.{list_all}
use Rattle.plan_table.specs.Decimal.{is_digit}
use Rattle.plan_table.proofs.LeastPlaces.{and_parts}
use Rattle.std.proofs.lemmas.List.Folds.{list_all-append}
use Rattle.std.proofs.Common.{ap}
use Rattle.plan_table.proofs.Roundings.{held-cut}
use Rattle.plan_table.proofs.rounding.rounded_digits.Goals as goal

pub returns : goal.returns
returns c =
    let fraction = c.args.fraction.now in
    let kept = c.split_at.result.0.now in
    let dropped = c.split_at.result.1.now in
    let parts : fraction ≡ kept ++ dropped = search rules in
    let long : length dropped ≡ length fraction - c.args.places = omega (arith, c.split_at.ensures.back_len) in
    let all : list_all is_digit dropped ≡ true = (and_parts (list_all is_digit kept) _ (sym (list_all-append is_digit kept dropped) ∙ sym (ap (list_all is_digit) parts) ∙ c.requires)).1 in
    held-cut c.args.places c.args.whole.now fraction kept dropped c.held-below.result c.carry.result c.min.result parts c.split_at.ensures.front_len (omega (arith, long)) all c.held-below.ensures c.carry.ensures.value c.min.ensures
