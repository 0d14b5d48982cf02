-- Where the separators at the front of a text end.
use Rattle.std.proofs.Common.{◌≡◌, ℕ, zero, suc, ◌<◌, ◌≤◌, true, false, List, [], ◌∷◌, length, drop, get_or, refl, sym, ◌∙◌, ap, arith}
use Rattle.std.specs.Prelude.{if◌then◌else◌}
use Rattle.qap_text.specs.Word.{is_separator, after_separators}

-- behind a gap of separators that ends at the text's end, or at a byte that is none
pub after_separators-gap : (text : List ℕ) (place : ℕ) → place ≤ length text → ((k : ℕ) → k < place → is_separator (get_or text k 0) ≡ true)
    → (place < length text → is_separator (get_or text place 0) ≡ false) → drop place text ≡ after_separators text
after_separators-gap [] zero inside gap at = refl
after_separators-gap [] (suc n) inside gap at = absurd (omega arith)
after_separators-gap (b ∷ bs) zero inside gap at = sym (ap (λ t. if t then after_separators bs else (b ∷ bs)) (at (omega arith)))
after_separators-gap (b ∷ bs) (suc n) inside gap at =
    after_separators-gap bs n (omega arith) (λ k below. gap (suc k) (omega arith)) (λ below. at (omega arith))
    ∙ sym (ap (λ t. if t then after_separators bs else (b ∷ bs)) (gap 0 (omega arith)))
