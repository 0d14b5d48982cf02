-- A solution's text is that of one solution, and has no fault.
use Rattle.std.proofs.Common.{◌≡◌, ◌≢◌, ℕ, zero, suc, ◌+◌, ◌^◌, ◌<◌, ◌≤◌, List, [], ◌∷◌, length, get_or, ℤ, pos, refl, sym, ◌∙◌, ap, subst, inl, inr, arith}
use Rattle.std.specs.Prelude.{unsigned_abs}
use Rattle.std.proofs.lemmas.Int.{ints}
use Rattle.qap_text.specs.Spelling.{IsNumberAt, Spells}
use Rattle.qap_io.specs.Number.{from_one}
use Rattle.qap_text.specs.SolutionText.{IsSolutionText, IsOtherSizeFault, IsValueFault, IsLocationFault, IsSolutionFault}
use Rattle.qap_text.specs.declared.error.TextError.{TextError}
use Rattle.qap_text.specs.declared.error.TextError.TheVariants.{Empty, NotANumber, CountDiffers, SizeDiffers, NotPermutation, ValueRange}
use Rattle.qap_text.proofs.OneReading.{IsNumberAt-unique, no_word-word, no_number-number, Spells-same, Spells-next, Spells-agree}
use Rattle.qap_text.proofs.Spellings.{Spells-append}

-- there are as many locations when they are counted from 1
pub length-from_one : (p : List ℕ) → length (from_one p) ≡ length p
length-from_one [] = refl
length-from_one (k ∷ p) = ap suc (length-from_one p)

-- counted from 1, the location at each place is one more
pub from_one-at : (p : List ℕ) (i : ℕ) → i < length p → get_or (from_one p) i (pos 0) ≡ pos (get_or p i 0 + 1)
from_one-at [] i below = absurd (omega arith)
from_one-at (k ∷ p) zero below = refl
from_one-at (k ∷ p) (suc i) below = from_one-at p i (omega arith)

-- the numbers spelled determine the locations
pub from_one-same : (p q : List ℕ) → from_one p ≡ from_one q → p ≡ q
from_one-same [] [] e = refl
from_one-same [] (k ∷ q) e = cc
from_one-same (k ∷ p) [] e = cc
from_one-same (k ∷ p) (l ∷ q) e =
    let heads : pos (k + 1) ≡ pos (l + 1) = cc in
    let head : k ≡ l = omega (arith, ints) in
    let tails : from_one p ≡ from_one q = cc in
    ap (λ x. x ∷ p) head ∙ ap (λ ys. l ∷ ys) (from_one-same p q tails)

-- a text is that of one solution at most
pub IsSolutionText-unique : (text : List ℕ) (n : ℕ) (c d : ℤ) (p q : List ℕ) → IsSolutionText text n c p → IsSolutionText text n d q → (c ≡ d) × (p ≡ q)
IsSolutionText-unique text n c d p q a b =
    let same : (pos n ∷ c ∷ from_one p ≡ pos n ∷ d ∷ from_one q) × (a.stop ≡ b.stop) =
    Spells-same text 0 (pos n ∷ c ∷ from_one p) (pos n ∷ d ∷ from_one q) a.stop b.stop a.spelled b.spelled
    (omega (arith, length-from_one p, length-from_one q, a.same_size, b.same_size)) in
    let whole = same.0 in
    (cc, from_one-same p q cc)

-- a text that begins with the size wanted has no fault there
pub size_right : (text : List ℕ) (start stop n : ℕ) (e : TextError) → IsNumberAt text 0 start stop (pos n) → IsOtherSizeFault text n e → ⊥
size_right text start stop n Empty number fault = no_word-word text 0 start stop fault number.word
size_right text start stop n (NotANumber place) number fault = no_number-number text 0 place start stop (pos n) fault number
size_right text start stop n (SizeDiffers place) number fault =
    fault.3 (sym (IsNumberAt-unique text 0 start stop place fault.0 (pos n) fault.1 number fault.2).1)
size_right text start stop n _ number fault = absurd fault

-- a value from -10^24 to 10^24 has no fault
pub value_right : (text : List ℕ) (from start stop : ℕ) (z : ℤ) (e : TextError) → unsigned_abs z ≤ 10 ^ 24 → IsNumberAt text from start stop z → IsValueFault text from e → ⊥
value_right text from start stop z CountDiffers in_range number fault = no_word-word text from start stop fault number.word
value_right text from start stop z (NotANumber place) in_range number fault = no_number-number text from place start stop z fault number
value_right text from start stop z (ValueRange place) in_range number fault =
    let same : z ≡ fault.1 = (IsNumberAt-unique text from start stop place fault.0 z fault.1 number fault.2).1 in
    let outside : 10 ^ 24 < unsigned_abs fault.1 = fault.3 in
    let inside : unsigned_abs fault.1 ≤ 10 ^ 24 = subst (λ (x : ℤ). unsigned_abs x ≤ 10 ^ 24) same in_range in
    omega arith
value_right text from start stop z _ in_range number fault = absurd fault

-- a location that is one of n and none of the earlier ones has no fault
pub location_right : (text : List ℕ) (from start stop n k : ℕ) (earlier : List ℕ) (e : TextError) → k < n → ((i : ℕ) → i < length earlier → get_or earlier i 0 ≢ k) → IsNumberAt text from start stop (pos (k + 1)) → IsLocationFault text from n earlier e → ⊥
location_right text from start stop n k earlier CountDiffers small new number fault = no_word-word text from start stop fault number.word
location_right text from start stop n k earlier (NotANumber place) small new number fault = no_number-number text from place start stop (pos (k + 1)) fault number
location_right text from start stop n k earlier (NotPermutation place) small new number fault =
    let same : pos (k + 1) ≡ fault.1 = (IsNumberAt-unique text from start stop place fault.0 (pos (k + 1)) fault.1 number fault.2).1 in
    elim fault.3 [
      | inl low ↦ omega (arith, ints)
      | inr (inl high) ↦ omega (arith, ints)
      | inr (inr taken) ↦
          let is : fault.1 ≡ pos (get_or earlier taken.0 0 + 1) = taken.2 in
          new taken.0 taken.1 (omega (arith, ints))
    ]
location_right text from start stop n k earlier _ small new number fault = absurd fault

-- a text of a solution has no fault
pub IsSolutionText-right : (text : List ℕ) (n : ℕ) (c : ℤ) (p : List ℕ) (e : TextError) → IsSolutionText text n c p → IsSolutionFault text n e → ⊥
IsSolutionText-right text n c p e a fault =
    let size = a.spelled.2 in
    let after_size = a.spelled.3 in
    elim fault [
      | inl other ↦ size_right text a.spelled.0 a.spelled.1 n e size other
      | inr (inl value) ↦
          let first = IsNumberAt-unique text 0 a.spelled.0 a.spelled.1 value.start value.stop (pos n) (pos n) size value.size in
          value_right text value.stop after_size.0 after_size.1 c e a.in_range
          (subst (λ (i : ℕ). IsNumberAt text i after_size.0 after_size.1 c) first.0 after_size.2) value.fault
      | inr (inr location) ↦
          let f = location.fault in
          let m = length f.earlier in
          let before = pos n ∷ location.value ∷ from_one f.earlier in
          let all = pos n ∷ c ∷ from_one p in
          let spelled : Spells text 0 before f.stop =
          Spells-append text 0 (pos n ∷ location.value ∷ []) location.stop (from_one f.earlier) f.stop location.spelled f.spelled in
          let count : length (from_one f.earlier) ≡ m = length-from_one f.earlier in
          let fewer : length before < length all = omega (arith, count, length-from_one p, a.same_size, f.too_few) in
          let next = Spells-next text 0 before all f.stop a.stop spelled a.spelled fewer in
          let inside : m < length p = omega (arith, f.too_few, a.same_size) in
          let is : get_or (from_one p) (length (from_one f.earlier)) (pos 0) ≡ pos (get_or p m 0 + 1) =
          ap (λ i. get_or (from_one p) i (pos 0)) count ∙ from_one-at p m inside in
          let same : (i : ℕ) → i < m → get_or f.earlier i 0 ≡ get_or p i 0 =
          λ i below.
          let agree : get_or (from_one f.earlier) i (pos 0) ≡ get_or (from_one p) i (pos 0) =
          Spells-agree text 0 before all f.stop a.stop spelled a.spelled (omega arith) (suc (suc i)) (omega (arith, count)) in
          let left : get_or (from_one f.earlier) i (pos 0) ≡ pos (get_or f.earlier i 0 + 1) = from_one-at f.earlier i below in
          let right : get_or (from_one p) i (pos 0) ≡ pos (get_or p i 0 + 1) = from_one-at p i (omega arith) in
          let both : pos (get_or f.earlier i 0 + 1) ≡ pos (get_or p i 0 + 1) = sym left ∙ agree ∙ right in
          omega (arith, ints, both) in
          location_right text f.stop next.0 next.1 n (get_or p m 0) f.earlier e
          (omega (arith, a.permutation.bijection.within m inside, a.same_size))
          (λ i below taken.
          let again : i ≡ m = a.permutation.bijection.distinct i m (omega arith) inside (sym (same i below) ∙ taken) in
          omega arith)
          (subst (λ (z : ℤ). IsNumberAt text f.stop next.0 next.1 z) is next.2) f.fault
    ]
