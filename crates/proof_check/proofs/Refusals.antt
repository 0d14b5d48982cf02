-- Why a line that is refused is none of the kind that was sought.
use Rattle.std.proofs.Common.{◌≡◌, ◌≢◌, ℕ, ◌+◌, ◌^◌, ◌<◌, ◌≤◌, ◌++◌, List, [], ◌∷◌, length, drop, get_or, ℤ, pos, unsigned_abs, to_z, of_z, refl, sym, ◌∙◌, ap, subst, arith}
use Rattle.std.specs.Int.{w128}
use Rattle.qap_cost.specs.Range.{AllLimited}
use Rattle.qap_lines.proofs.NumberLists.{AllLimited-one, IsNamed-numbers_text, IsNamed-unique, held-within}
use Rattle.qap_lines.proofs.Numerals.{reads_wide}
use Rattle.qap_lines.specs.LineText.{numbers_text}
use Rattle.qap_lines.specs.Number.{IsNamed, held}
use Rattle.proof_tree.specs.Shape.{AreLimited}

-- a line of limited numbers
pub named_line : (m : ℕ) (name line : List ℕ) (u : List ℤ) → AreLimited m u → line ≡ name ++ numbers_text u → IsNamed name line u
named_line m name line u limited is = subst (λ (l : List ℕ). IsNamed name l u) (sym is) (IsNamed-numbers_text name u limited.limited)

-- it has no other count
pub other_count : (m : ℕ) (name line : List ℕ) (zs u : List ℤ) → IsNamed name line zs → length zs ≢ m → AreLimited m u → line ≡ name ++ numbers_text u → ⊥
other_count m name line zs u named other limited is = other (ap length (IsNamed-unique name line zs u named (named_line m name line u limited is)) ∙ limited.count)

-- all its numbers are limited
pub is_limited : (m : ℕ) (name line : List ℕ) (zs u : List ℤ) → IsNamed name line zs → AreLimited m u → line ≡ name ++ numbers_text u → AllLimited zs
is_limited m name line zs u named limited is = subst AllLimited (IsNamed-unique name line u zs (named_line m name line u limited is) named) limited.limited

-- a line of one number that is counted from 1
pub number_named : (name line : List ℕ) (size i : ℕ) → size ≤ 256 → i < size → line ≡ name ++ numbers_text (pos (i + 1) ∷ []) → IsNamed name line (pos (i + 1) ∷ [])
number_named name line size i small less is = named_line 1 name line (pos (i + 1) ∷ []) (record { count = refl; limited = AllLimited-one (pos (i + 1)) (omega (arith, small, less)) }) is

-- where the number is that of none, there is no such line
pub no_number : (name line : List ℕ) (size : ℕ) (v z : ℤ) → size ≤ 256 → IsNamed name line (z ∷ []) → v ≡ held z → ((k : ℕ) → k < size → to_z w128 (of_z w128 v) ≢ pos (k + 1)) → (i : ℕ) → i < size → line ≡ name ++ numbers_text (pos (i + 1) ∷ []) → ⊥
no_number name line size v z small named is none i less line_is =
    let same = IsNamed-unique name line (z ∷ []) (pos (i + 1) ∷ []) named (number_named name line size i small less line_is) in
    let z_is : z ≡ pos (i + 1) = ap (λ l. get_or l 0 (pos 0)) same in
    let near : unsigned_abs (pos (i + 1)) ≤ 10 ^ 24 = omega (arith, small, less) in
    let v_is : v ≡ pos (i + 1) = is ∙ ap held z_is ∙ held-within (pos (i + 1)) near in
    none i less (ap (λ x. to_z w128 (of_z w128 x)) v_is ∙ reads_wide (pos (i + 1)) (omega (arith, near)))

-- a row behind a blank
pub blank_row : (width : ℕ) (row : List ℤ) → 0 < width → AreLimited width row → 32 ∷ drop 1 (numbers_text row) ≡ numbers_text row
blank_row width [] some limited = absurd (omega (arith, some, limited.count))
blank_row width (z ∷ row) some limited = refl
