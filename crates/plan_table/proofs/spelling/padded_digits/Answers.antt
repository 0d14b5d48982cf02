use Rattle.std.proofs.Common.{rules, ◌≡◌, ◌++◌, ◌∙◌, ap, ap₂, arith, replicate}
use Rattle.std.specs.Fmt.{decimal}
use Rattle.std.specs.List.{list_all}
use Rattle.plan_table.specs.Decimal.{is_digit, magnitude_of}
use Rattle.plan_table.proofs.Spelt.{decimal_written, zeros_in_front}
use Rattle.plan_table.proofs.spelling.padded_digits.Goals as goal

pub returns-clause-digits : goal.returns-clause-digits
returns-clause-digits c =
    let zeros = c.saturating_sub.result in
    let front : c.in_ok-padded.padded.items ≡ replicate zeros 48 = search rules in
    let is : c.extend_from_slice.new.self.items ≡ replicate zeros 48 ++ decimal c.args.magnitude =
    c.in_ok-extend_from_slice.ensures.items ∙ ap₂ (λ a b. a ++ b) front (c.as_bytes.ensures.value ∙ c.in_ok-digits.ensures.ok) in
    ap (list_all is_digit) is ∙ (zeros_in_front zeros c.args.magnitude (decimal c.args.magnitude) (decimal_written c.args.magnitude (omega arith))).0

pub returns-clause-value : goal.returns-clause-value
returns-clause-value c =
    let zeros = c.saturating_sub.result in
    let front : c.in_ok-padded.padded.items ≡ replicate zeros 48 = search rules in
    let is : c.extend_from_slice.new.self.items ≡ replicate zeros 48 ++ decimal c.args.magnitude =
    c.in_ok-extend_from_slice.ensures.items ∙ ap₂ (λ a b. a ++ b) front (c.as_bytes.ensures.value ∙ c.in_ok-digits.ensures.ok) in
    ap magnitude_of is ∙ (zeros_in_front zeros c.args.magnitude (decimal c.args.magnitude) (decimal_written c.args.magnitude (omega arith))).1
