-- Lines of a text: there is one first line.
use Rattle.std.proofs.Common.{◌≡◌, ◌≢◌, ℕ, zero, suc, ◌-◌, ◌<◌, List, ◌∷◌, ◌++◌, length, take, drop, get_or, refl, sym, ap, subst, ◌∙◌, inl, inr, arith, length-append}
use Rattle.std.proofs.lemmas.Bool.{cases_lt, cases_order}
use Rattle.std.proofs.lemmas.List.{get_or_at, get_or_append_left, get_or-append_right, take_at, drop_at}
use Rattle.qap_lines.specs.Line.{HasNoLine, IsLine}

-- one byte more at the front is none that ends a line
pub HasNoLine-cons : (byte : ℕ) (text : List ℕ) → byte ≢ 10 → HasNoLine text → HasNoLine (byte ∷ text)
HasNoLine-cons byte text other none = record { each = each }
  where
    each : (i : ℕ) → i < length (byte ∷ text) → get_or (byte ∷ text) i 0 ≢ 10
    each zero below = other
    each (suc i) below = none.each i (omega arith)

-- two texts without a line feed have none one behind the other
pub HasNoLine-append : (front back : List ℕ) → HasNoLine front → HasNoLine back → HasNoLine (front ++ back)
HasNoLine-append front back a b = record {
  each = λ i below.
      elim (cases_lt i (length front)) [
        | inl before ↦ subst (λ (x : ℕ). x ≢ 10) (sym (get_or_append_left front back 0 i before)) (a.each i before)
        | inr past ↦ subst (λ (x : ℕ). x ≢ 10) (sym (get_or-append_right front back (length front) i 0 refl past)) (b.each (i - length front) (omega (arith, length-append front back)))
      ];
}

-- fronts of one text that are as long are one, and so is what follows
pub same_fronts : (front rest other more : List ℕ) → front ++ rest ≡ other ++ more → length front ≡ length other → (front ≡ other) × (rest ≡ more)
same_fronts front rest other more is long = (
  sym (take_at front rest (length front) refl) ∙ ap (take (length front)) is ∙ take_at other more (length front) (sym long),
  sym (drop_at front rest (length front) refl) ∙ ap (drop (length front)) is ∙ drop_at other more (length front) (sym long),
)

-- a line feed that follows a front lies in no longer front that has none
no_shorter_line : (front rest other more : List ℕ) → front ++ 10 ∷ rest ≡ other ++ more → HasNoLine other → length front < length other → ⊥
no_shorter_line front rest other more is none shorter =
    none.each (length front) shorter (sym (get_or_append_left other more 0 (length front) shorter) ∙ sym (ap (λ l. get_or l (length front) 0) is) ∙ get_or_at front 10 rest 0 (length front) refl)

-- there is one first line
pub IsLine-unique : (text line rest other more : List ℕ) → IsLine text line rest → IsLine text other more → (line ≡ other) × (rest ≡ more)
IsLine-unique text line rest other more a b =
    let is : line ++ 10 ∷ rest ≡ other ++ 10 ∷ more = sym a.is ∙ b.is in
    let long : length line ≡ length other =
    elim (cases_order (length line) (length other)) [
      | inl same ↦ same
      | inr (inl shorter) ↦ absurd (no_shorter_line line rest other (10 ∷ more) is b.first shorter)
      | inr (inr longer) ↦ absurd (no_shorter_line other more line (10 ∷ rest) (sym is) a.first longer)
    ] in
    let same = same_fronts line (10 ∷ rest) other (10 ∷ more) is long in (same.0, ap (drop 1) same.1)

-- where there is a line, a byte ends it
pub no_line-line : (text line rest : List ℕ) → HasNoLine text → IsLine text line rest → ⊥
no_line-line text line rest none some =
    none.each (length line) (omega (arith, ap length some.is, length-append line (10 ∷ rest))) (ap (λ l. get_or l (length line) 0) some.is ∙ get_or_at line 10 rest 0 (length line) refl)
