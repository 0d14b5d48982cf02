-- The line of a split: its parts are determined.
use Rattle.std.proofs.Common.{◌≡◌, ◌≢◌, ℕ, zero, suc, ◌+◌, ◌-◌, ◌<◌, ◌≤◌, ◌^◌, ◌++◌, List, [], ◌∷◌, length, take, drop, get_or, ℤ, pos, unsigned_abs, refl, sym, ◌∙◌, ap, ap₂, subst, inl, inr, arith, append_assoc, length-append, length-drop}
use Rattle.std.specs.Fmt.{signed_decimal}
use Rattle.std.proofs.lemmas.Bool.{cases_order}
use Rattle.std.proofs.lemmas.List.{append-nil, drop_at, get_or_at, get_or_append_left, take_all, take-append-drop}
use Rattle.qap_cost.specs.Placement.{Placement, IsPlacement}
use Rattle.qap_cost.specs.Range.{AllLimited}
use Rattle.qap_lines.proofs.Lines.{same_fronts}
use Rattle.qap_lines.proofs.Words.{IsNumber-signed_decimal, IsNumber-unique}
use Rattle.qap_lines.specs.LineText.{numbers_text}
use Rattle.qap_lines.specs.Number.{IsNumber}
use Rattle.pair_duals.proofs.Seatings.{facilities_of, locations_of, one_of_each}
use Rattle.qap_proof.specs.Cell.{IsPlaceOf, own_on}
use Rattle.qap_proof.specs.Text.{letter}
use Rattle.qap_proof.specs.declared.side.Side.{Side}
use Rattle.qap_proof.specs.declared.side.Side.TheVariants.{Facility, Location}
use Rattle.proof_tree.specs.Text.{split_text}
use Rattle.proof_check.specs.Completeness.{HasNoBlank}
use Rattle.proof_check.proofs.TreeLines.{one_numbers, split_line}

-- the place of a number among the free ones
pub one_place : (side : Side) (y : Placement) (number i j : ℕ) → IsPlacement y → IsPlaceOf (own_on side y) number i → IsPlaceOf (own_on side y) number j → i ≡ j
one_place Facility y number i j is a b = one_of_each y.size y.facilities _ i j (facilities_of y is) a.within b.within (a.is ∙ sym b.is)
one_place Location y number i j is a b = one_of_each y.size y.places _ i j (locations_of y is) a.within b.within (a.is ∙ sym b.is)

-- ---- the letter and the number

-- the letter and the number of a split's line
abbrev pub heading : Side → ℕ → List ℕ
heading side number = letter side ++ numbers_text (pos (number + 1) ∷ [])

same_side : (a b : Side) (xs ys : List ℕ) → letter a ++ xs ≡ letter b ++ ys → a ≡ b
same_side Facility Facility xs ys e = refl
same_side Facility Location xs ys e = absurd (let first : 115 ≡ 116 = ap (λ l. get_or l 0 0) e in omega (arith, first))
same_side Location Facility xs ys e = absurd (let first : 116 ≡ 115 = ap (λ l. get_or l 0 0) e in omega (arith, first))
same_side Location Location xs ys e = refl

behind_letter : (a b : Side) (xs ys : List ℕ) → letter a ++ xs ≡ letter b ++ ys → xs ≡ ys
behind_letter Facility Facility xs ys e = ap (drop 1) e
behind_letter Facility Location xs ys e = absurd (let first : 115 ≡ 116 = ap (λ l. get_or l 0 0) e in omega (arith, first))
behind_letter Location Facility xs ys e = absurd (let first : 116 ≡ 115 = ap (λ l. get_or l 0 0) e in omega (arith, first))
behind_letter Location Location xs ys e = ap (drop 1) e

-- no byte of a decimal is a blank
word_high : (n j : ℕ) → n ≤ 10 ^ 20 → j < length (signed_decimal (pos n)) → 48 ≤ get_or (signed_decimal (pos n)) j 0
word_high n j small below = let digits = IsNumber-signed_decimal (pos n) (omega (arith, small)) in (digits.digits j below).0

-- the second blank of such a line is behind its number
pub heading-blank : (side : Side) (number : ℕ) → number < 10 ^ 20 → (2 ≤ length (heading side number)) × HasNoBlank (heading side number)
heading-blank side number small = (long side, record { each = each side })
  where
    word : List ℕ
    word = signed_decimal (pos (number + 1))

    high : (j : ℕ) → j < length (word ++ []) → get_or (word ++ []) j 0 ≢ 32
    high j below e =
        let same = append-nil word in
        let at : get_or word j 0 ≡ 32 = ap (λ l. get_or l j 0) (sym same) ∙ e in
        let up = word_high (number + 1) j (omega (arith, small)) (omega (arith, ap length same, below)) in
        absurd (omega (arith, up, at))

    long : (side : Side) → 2 ≤ length (heading side number)
    long Facility = omega arith
    long Location = omega arith

    each : (side : Side) (i : ℕ) → 2 ≤ i → i < length (heading side number) → get_or (heading side number) i 0 ≢ 32
    each Facility zero least below = absurd (omega (arith, least))
    each Facility (suc zero) least below = absurd (omega (arith, least))
    each Facility (suc (suc j)) least below = high j (omega (arith, below))
    each Location zero least below = absurd (omega (arith, least))
    each Location (suc zero) least below = absurd (omega (arith, least))
    each Location (suc (suc j)) least below = high j (omega (arith, below))

no_shorter : (front behind other more : List ℕ) → front ++ 32 ∷ behind ≡ other ++ 32 ∷ more → 2 ≤ length front → HasNoBlank other → length front < length other → ⊥
no_shorter front behind other more is long none shorter =
    none.each (length front) long shorter (sym (get_or_append_left other (32 ∷ more) 0 (length front) shorter) ∙ sym (ap (λ l. get_or l (length front) 0) is) ∙ get_or_at front 32 behind 0 (length front) refl)

-- a line has one second blank
pub one_blank : (front behind other more : List ℕ) → front ++ 32 ∷ behind ≡ other ++ 32 ∷ more → 2 ≤ length front → HasNoBlank front → 2 ≤ length other → HasNoBlank other → (front ≡ other) × (behind ≡ more)
one_blank front behind other more is long none long' none' =
    let count : length front ≡ length other =
    elim (cases_order (length front) (length other)) [
      | inl same ↦ same
      | inr (inl shorter) ↦ absurd (no_shorter front behind other more is long none' shorter)
      | inr (inr longer) ↦ absurd (no_shorter other more front behind (sym is) long' none longer)
    ] in
    let same = same_fronts front (32 ∷ behind) other (32 ∷ more) is count in (same.0, ap (drop 1) same.1)

-- a line without a second blank is none of a split
pub no_split_line : (side : Side) (number : ℕ) (marked : List ℕ) (u : List ℤ) (line : List ℕ) → number < 10 ^ 20 → HasNoBlank line → line ≢ split_line side number marked u
no_split_line side number marked u line small none is =
    let long = (heading-blank side number small).0 in
    let front = heading side number in
    let is' : line ≡ front ++ 32 ∷ (marked ++ numbers_text u) = is ∙ append_assoc front (32 ∷ marked) (numbers_text u) in
    none.each (length front) long (omega (arith, ap length is', length-append front (32 ∷ (marked ++ numbers_text u)))) (ap (λ l. get_or l (length front) 0) is' ∙ get_or_at front 32 (marked ++ numbers_text u) 0 (length front) refl)

one_heading : (side side' : Side) (number number' : ℕ) → number < 10 ^ 20 → number' < 10 ^ 20 → heading side number ≡ heading side' number' → (side ≡ side') × (number ≡ number')
one_heading side side' number number' small small' e =
    let z = pos (number + 1) in
    let z' = pos (number' + 1) in
    let words : signed_decimal z ≡ signed_decimal z' = sym (append-nil (signed_decimal z)) ∙ ap (drop 1) (behind_letter side side' (numbers_text (z ∷ [])) (numbers_text (z' ∷ [])) e) ∙ append-nil (signed_decimal z') in
    let same : z ≡ z' = IsNumber-unique (signed_decimal z) z z' (IsNumber-signed_decimal z (omega (arith, small))) (subst (λ (w : List ℕ). IsNumber w z') (sym words) (IsNumber-signed_decimal z' (omega (arith, small')))) in
    let more : number + 1 ≡ number' + 1 = ap unsigned_abs same in
    (same_side side side' (numbers_text (z ∷ [])) (numbers_text (z' ∷ [])) e, omega (arith, more))

-- the parts of a split's line
pub record IsOneSplit (side side' : Side) (number number' : ℕ) (marked marked' : List ℕ) (u u' : List ℤ) : Type 0 where
  pub sides : side ≡ side'
  pub numbers : number ≡ number'
  pub marks : marked ≡ marked'
  pub duals : u ≡ u'

-- a line is that of one split
pub one_split : (side side' : Side) (number number' : ℕ) (marked marked' : List ℕ) (u u' : List ℤ) → number < 10 ^ 20 → number' < 10 ^ 20 → length marked ≡ length marked' → AllLimited u → AllLimited u' → split_line side number marked u ≡ split_line side' number' marked' u'
    → IsOneSplit side side' number number' marked marked' u u'
one_split side side' number number' marked marked' u u' small small' long limited limited' e =
    let front = heading side number in
    let front' = heading side' number' in
    let h = heading-blank side number small in
    let h' = heading-blank side' number' small' in
    let is : front ++ 32 ∷ (marked ++ numbers_text u) ≡ front' ++ 32 ∷ (marked' ++ numbers_text u') = sym (append_assoc front (32 ∷ marked) (numbers_text u)) ∙ e ∙ append_assoc front' (32 ∷ marked') (numbers_text u') in
    let parts = one_blank front (marked ++ numbers_text u) front' (marked' ++ numbers_text u') is h.0 h.1 h'.0 h'.1 in
    let head = one_heading side side' number number' small small' parts.0 in
    let behind = same_fronts marked (numbers_text u) marked' (numbers_text u') parts.1 long in
    record { sides = head.0; numbers = head.1; marks = behind.0; duals = one_numbers [] u u' limited limited' behind.1 }

-- what is before and after the second blank of a split's line
pub heading_parts : (side : Side) (number : ℕ) (marked : List ℕ) (u : List ℤ) (line front behind : List ℕ) → number < 10 ^ 20 → line ≡ front ++ 32 ∷ behind → 2 ≤ length front → HasNoBlank front → line ≡ split_line side number marked u → (front ≡ heading side number) × (behind ≡ marked ++ numbers_text u)
heading_parts side number marked u line front behind small is long none split_is =
    let head = heading side number in
    let h = heading-blank side number small in
    one_blank front behind head (marked ++ numbers_text u) (sym is ∙ split_is ∙ append_assoc head (32 ∷ marked) (numbers_text u)) long none h.0 h.1

-- the numbers behind the marks
pub numbers_behind : (m : ℕ) (behind marked : List ℕ) (u : List ℤ) → behind ≡ marked ++ numbers_text u → length marked ≡ m → take (length behind - m) (drop m behind) ≡ numbers_text u
numbers_behind m behind marked u is long =
    take_all (length behind - m) (drop m behind) (omega (arith, length-drop m behind)) ∙ ap (drop m) is ∙ drop_at marked (numbers_text u) m long

-- a line of these parts is that of a split
pub split_found : (side : Side) (number m : ℕ) (line front behind first marked : List ℕ) (u : List ℤ) → line ≡ front ++ 32 ∷ behind → front ≡ first ++ numbers_text (pos (number + 1) ∷ []) → first ≡ letter side → m ≤ length behind → marked ≡ take m behind
    → take (length behind - m) (drop m behind) ≡ numbers_text u → line ++ 10 ∷ [] ≡ split_text side number marked u
split_found side number m line front behind first marked u is front_is letter_is inside marks_are rest =
    let whole = take_all (length behind - m) (drop m behind) (omega (arith, length-drop m behind)) in
    let behind_is : behind ≡ marked ++ numbers_text u = sym (take-append-drop m behind) ∙ ap₂ (λ a b. a ++ b) (sym marks_are) (sym whole ∙ rest) in
    let head_is : front ≡ heading side number = front_is ∙ ap (λ l. l ++ numbers_text (pos (number + 1) ∷ [])) letter_is in
    ap (λ l. l ++ 10 ∷ []) (is ∙ ap₂ (λ a b. a ++ 32 ∷ b) head_is behind_is ∙ sym (append_assoc (heading side number) (32 ∷ marked) (numbers_text u)))
