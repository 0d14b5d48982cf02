-- `parse` reads the digits.
use Rattle.std.proofs.Common.{◌≡◌, ℕ, ◌<◌, true, List, length, Option, MatchOption, sym, subst, ◌∙◌, rules}
use Rattle.std.specs.Char.{is_ascii_digit}
use Rattle.std.specs.List.{list_all}
use Rattle.std.specs.Str.Parse.{ParsesUnsigned}
use Rattle.space_script.specs.Number.{IsCount}
use Rattle.space_script.proofs.Numerals.{ascii_digits, count_of_parse}
use Rattle.space_script.proofs.numbers.read_count.Goals as goal

pub as_text-requires : goal.as_text-requires
as_text-requires c = ascii_digits c.args.word.now (sym c.are_digits.ensures ∙ c.if-not-are_digits.false)

pub returns : goal.returns
returns c =
    let word = c.args.word.now in
    let digits : list_all is_ascii_digit word ≡ true = sym c.are_digits.ensures ∙ c.if-not-are_digits.false in
    let some : 0 < length word = search rules in
    let parsed = subst (λ (text : List ℕ). ParsesUnsigned 64 10 text c.parse.result) c.as_text.ensures c.parse.ensures.value.0 in
    subst (λ (o : Option ℕ). MatchOption o ((n : ℕ) → IsCount word n → ⊥) (IsCount word)) (sym c.ok.ensures.value) (count_of_parse word c.parse.result parsed some digits)
