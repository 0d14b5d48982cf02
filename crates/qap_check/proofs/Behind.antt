-- What follows an instance stands at the end of its text.
use Rattle.std.proofs.Common.{◌≡◌, ℕ, ◌-◌, ◌≤◌, true, false, List, [], ◌∷◌, ◌++◌, length, take, drop, refl, sym, ap, ◌∙◌, append_assoc, length-append, take-append-drop, arith}
use Rattle.std.specs.Prelude.{if◌then◌else◌}
use Rattle.std.proofs.Math.Seq.{drop-append_seam}
use Rattle.qap_text.specs.Word.{is_separator, after_separators}
use Rattle.qap_check.specs.Source.{between}
use Rattle.qap_check.specs.declared.source.Separators.{Separators}
use Rattle.qap_check.specs.declared.source.Separators.TheVariants.{Kept, PassedOver}

-- a text ends with another
pub record EndsWith (text last : List ℕ) : Type 0 where
  pub front : List ℕ
  pub is : text ≡ front ++ last

separators_end : (text : List ℕ) → EndsWith text (after_separators text)
separators_end [] = record { front = []; is = refl }
separators_end (b ∷ bs) =
    let rest = separators_end bs in
    elim (is_separator b) as (λ t. EndsWith (b ∷ bs) (if t then after_separators bs else b ∷ bs)) [
      | true ↦ record { front = b ∷ rest.front; is = ap (λ l. b ∷ l) rest.is }
      | false ↦ record { front = []; is = refl }
    ]

between_ends : (separators : Separators) (rest : List ℕ) → EndsWith rest (between separators rest)
between_ends Kept rest = record { front = []; is = refl }
between_ends PassedOver rest = separators_end rest

-- what follows an instance, with its separators or without, is at the end of the text
pub behind_ends : (separators : Separators) (text rest behind : List ℕ) (stop : ℕ) → rest ≡ drop stop text → behind ≡ between separators rest → EndsWith text behind
behind_ends separators text rest behind stop follows is =
    let last = between_ends separators rest in record {
      front = take stop text ++ last.front;
      is = sym (take-append-drop stop text) ∙ ap (λ l. take stop text ++ l) (sym follows ∙ last.is)
          ∙ sym (append_assoc (take stop text) last.front (between separators rest)) ∙ ap (λ l. (take stop text ++ last.front) ++ l) (sym is);
    }

-- what is at the end of a text is no longer than the text
pub EndsWith-length : (text last : List ℕ) → EndsWith text last → length last ≤ length text
EndsWith-length text last h = omega (arith, ap length h.is, length-append h.front last)

-- it begins where as many bytes are left as it has
pub EndsWith-drop : (text last : List ℕ) → EndsWith text last → drop (length text - length last) text ≡ last
EndsWith-drop text last h =
    let start : length text - length last ≡ length h.front = omega (arith, ap length h.is, length-append h.front last) in
    ap (λ n. drop n text) start ∙ ap (drop (length h.front)) h.is ∙ drop-append_seam h.front last
