-- `parse` reads the minus sign and the digits.
use Rattle.std.proofs.Common.{◌≡◌, ◌<◌, true, List, ◌∷◌, length, Option, MatchOption, sym, subst, ◌∙◌, rules, ℕ, ℤ}
use Rattle.std.specs.Char.{is_ascii_digit}
use Rattle.std.specs.Int.{w128}
use Rattle.std.specs.List.{list_all}
use Rattle.std.specs.Str.{IsAscii}
use Rattle.std.specs.Str.Parse.{ParsesSigned}
use Rattle.space_script.specs.Number.{IsInteger}
use Rattle.space_script.proofs.Numerals.{ascii_negated, negated_of_parse}
use Rattle.space_script.proofs.numbers.read_negative.Goals as goal

pub as_text-requires : goal.as_text-requires
as_text-requires c =
    subst IsAscii (sym c.requires) (ascii_negated c.args.digits.now (sym c.are_digits.ensures ∙ c.if-not-are_digits.false))

pub returns : goal.returns
returns c =
    let digits = c.args.digits.now in
    let all : list_all is_ascii_digit digits ≡ true = sym c.are_digits.ensures ∙ c.if-not-are_digits.false in
    let some : 0 < length digits = search rules in
    let parsed = subst (λ (text : List ℕ). ParsesSigned w128 10 text c.parse.result) (c.as_text.ensures ∙ c.requires) c.parse.ensures.value.0 in
    let read = subst (λ (o : Option ℤ). MatchOption o ((z : ℤ) → IsInteger (45 ∷ digits) z → ⊥) (IsInteger (45 ∷ digits))) (sym c.ok.ensures.value) (negated_of_parse digits c.parse.result parsed some all) in
    subst (λ (text : List ℕ). MatchOption c.ok.result ((z : ℤ) → IsInteger text z → ⊥) (IsInteger text)) (sym c.requires) read
