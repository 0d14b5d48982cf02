use Rattle.std.proofs.Common.{◌≡◌, ◌∙◌, ap, sym, true}
use Rattle.plan_table.specs.Numerals.{is_exponent, is_spelled}
use Rattle.plan_table.proofs.LeastPlaces.{and_parts}
use Rattle.plan_table.proofs.numeral.plain_number.Goals as goal

pub push_unsigned-requires-clause-power : goal.push_unsigned-requires-clause-power
push_unsigned-requires-clause-power c =
    let word = c.args.word.now in
    let spelled : is_spelled c.args.mark word ≡ true = sym c.if-not-is_spelled.ensures in
    ap (is_exponent word) c.exponent_at-at.ensures.place ∙ (and_parts _ _ spelled).1
