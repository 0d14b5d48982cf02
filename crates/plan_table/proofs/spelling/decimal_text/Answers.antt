use Rattle.std.proofs.Common.{rules, ◌≡◌, ◌-◌, ◌++◌, ◌∙◌, ap, ap₂, arith, drop, length, List, take, ℕ, subst, sym, to_z, of_z, unsigned_abs}
use Rattle.std.specs.Int.{w128}
use Rattle.plan_table.specs.Decimal.{without_zeros}
use Rattle.plan_table.specs.Spelling.{Spells, pointed_text, sign_text}
use Rattle.plan_table.proofs.Spelt.{spells}
use Rattle.plan_table.proofs.spelling.decimal_text.Goals as goal

pub returns : goal.returns
returns c =
    let number = c.args.number in
    let places = c.args.places in
    let digits = c.in_ok-digits.digits.items in
    let told = c.in_ok-digits.ensures in
    let lent = c.deref.ensures.value in
    let size : c.unsigned_abs.result ≡ unsigned_abs number = search rules in
    let same : to_z w128 (of_z w128 number) ≡ number = search rules in
    let mid : c.len.result - places ≡ length digits - places = omega (arith, c.len.ensures, c.deref.ensures.len, ap (λ (l : List ℕ). length l) lent) in
    let whole = c.split_at.ensures.front ∙ ap₂ take mid lent in
    let fraction = c.without_zeros.ensures ∙ ap without_zeros (c.split_at.ensures.back ∙ ap₂ drop mid lent) in
    let signed = c.in_ok-text.ensures.items ∙ c.sign.ensures ∙ ap sign_text same in
    let is = c.in_ok-push_digits.ensures ∙ ap₂ (λ a b. a ++ b) signed (ap₂ pointed_text whole fraction) in
    subst (λ (text : List ℕ). Spells text number places) (sym is) (spells number places digits told.digits (told.value ∙ size) told.more)
