-- There is one first fault.
use Rattle.std.proofs.Common.{◌≡◌, ◌≢◌, ℕ, ◌+◌, ◌*◌, ◌^◌, ◌<◌, List, [], ◌∷◌, length, get_or, ℤ, pos, refl, sym, ◌∙◌, ap, subst, inl, inr, arith}
use Rattle.std.specs.Prelude.{◌⊎◌, ◌≤ℤ◌, ◌<ℤ◌, unsigned_abs}
use Rattle.std.proofs.lemmas.Bool.{cases_order}
use Rattle.std.proofs.lemmas.Int.{ints}
use Rattle.qap_io.specs.Number.{from_one}
use Rattle.qap_text.specs.Word.{HasNoWord}
use Rattle.qap_text.specs.Spelling.{IsNumberAt, IsNoNumberAt}
use Rattle.qap_text.specs.InstanceText.{IsSizeFault, IsEntryFault, HasEntryFault, HasInstanceEntryFault, IsInstanceFault}
use Rattle.qap_text.specs.SolutionText.{IsOtherSizeFault, IsValueFault, IsNoLocation, IsLocationFault, HasLocationFault, HasValueFault, HasSolutionLocationFault, IsSolutionFault}
use Rattle.qap_text.specs.declared.error.TextError.{TextError}
use Rattle.qap_text.specs.declared.error.TextError.TheVariants.{Empty, NotANumber, SizeZero, SizeTooLarge, EntryRange, CountDiffers, SizeDiffers, NotPermutation, ValueRange}
use Rattle.qap_text.proofs.InstanceReadings.{size_right as instance_size, entry_right}
use Rattle.qap_text.proofs.SolutionReadings.{size_right as solution_size, value_right, location_right, length-from_one, from_one-at, from_one-same}
use Rattle.qap_text.proofs.OneReading.{IsWordAt-unique, IsNumberAt-unique, no_word-word, no_number-number, Spells-same, Spells-next, Spells-agree}

-- the next word is missing, or it is no number, or it is a number that is judged to be at fault
data WordFault (text : List ℕ) (from : ℕ) (missing : TextError) (J : ℕ → ℤ → TextError → Type 0) (e : TextError) : Type 0 where
  is_missing : HasNoWord text from → e ≡ missing → WordFault text from missing J e
  is_no_number : (place : ℕ) → IsNoNumberAt text from place → e ≡ NotANumber place → WordFault text from missing J e
  is_judged : (place stop : ℕ) (z : ℤ) → IsNumberAt text from place stop z → J place z e → WordFault text from missing J e

-- where there is one judgement of a number, there is one fault of the next word
one_word_fault : (text : List ℕ) (from : ℕ) (missing : TextError) (J : ℕ → ℤ → TextError → Type 0) (e f : TextError)
    → ((place : ℕ) (z : ℤ) → J place z e → J place z f → e ≡ f) → WordFault text from missing J e → WordFault text from missing J f → e ≡ f
one_word_fault text from missing J e f one (is_missing a is) (is_missing b also) = is ∙ sym also
one_word_fault text from missing J e f one (is_missing a is) (is_no_number q b also) = absurd (no_word-word text from q b.stop a b.word)
one_word_fault text from missing J e f one (is_missing a is) (is_judged q v y b also) = absurd (no_word-word text from q v a b.word)
one_word_fault text from missing J e f one (is_no_number p a is) (is_missing b also) = absurd (no_word-word text from p a.stop b a.word)
one_word_fault text from missing J e f one (is_no_number p a is) (is_no_number q b also) =
    is ∙ ap NotANumber (IsWordAt-unique text from p a.stop q b.stop a.word b.word).0 ∙ sym also
one_word_fault text from missing J e f one (is_no_number p a is) (is_judged q v y b also) = absurd (no_number-number text from p q v y a b)
one_word_fault text from missing J e f one (is_judged p u x a is) (is_missing b also) = absurd (no_word-word text from p u b a.word)
one_word_fault text from missing J e f one (is_judged p u x a is) (is_no_number q b also) = absurd (no_number-number text from q p u x b a)
one_word_fault text from missing J e f one (is_judged p u x a is) (is_judged q v y b also) =
    let place : p ≡ q = (IsWordAt-unique text from p u q v a.word b.word).0 in
    let same : x ≡ y = (IsNumberAt-unique text from p u q v x y a b).1 in
    one q y (subst (λ (z : ℤ). J q z e) same (subst (λ (i : ℕ). J i x e) place is)) also

-- a number that is no size
abbrev NoSize : ℕ → ℤ → TextError → Type 0
NoSize place z e = ((z ≤ℤ pos 0) × (e ≡ SizeZero place)) ⊎ ((pos 256 <ℤ z) × (e ≡ SizeTooLarge place))

size_word : (text : List ℕ) (e : TextError) → IsSizeFault text e → WordFault text 0 Empty NoSize e
size_word text Empty h = is_missing h refl
size_word text (NotANumber place) h = is_no_number place h refl
size_word text (SizeZero place) h = is_judged place h.0 h.1 h.2 (inl (h.3, refl))
size_word text (SizeTooLarge place) h = is_judged place h.0 h.1 h.2 (inr (h.3, refl))
size_word text _ h = absurd h

one_no_size : (e f : TextError) (place : ℕ) (z : ℤ) → NoSize place z e → NoSize place z f → e ≡ f
one_no_size e f place z a b =
    elim a [
      | inl x ↦ elim b [
        | inl y ↦ x.1 ∙ sym y.1
        | inr y ↦ let low = x.0 in let high = y.0 in absurd (omega (arith, ints))
      ]
      | inr x ↦ elim b [
        | inl y ↦ let high = x.0 in let low = y.0 in absurd (omega (arith, ints))
        | inr y ↦ x.1 ∙ sym y.1
      ]
    ]

-- a number that is no entry
abbrev NoEntry : ℕ → ℤ → TextError → Type 0
NoEntry place z e = (1000000000 < unsigned_abs z) × (e ≡ EntryRange place)

entry_word : (text : List ℕ) (from : ℕ) (e : TextError) → IsEntryFault text from e → WordFault text from CountDiffers NoEntry e
entry_word text from CountDiffers h = is_missing h refl
entry_word text from (NotANumber place) h = is_no_number place h refl
entry_word text from (EntryRange place) h = is_judged place h.0 h.1 h.2 (h.3, refl)
entry_word text from _ h = absurd h

-- an entry at fault has no right one in its place
no_right_entry : (text : List ℕ) (from wanted : ℕ) (e f : TextError) (a : HasEntryFault text from wanted e) (b : HasEntryFault text from wanted f) → length a.entries < length b.entries → ⊥
no_right_entry text from wanted e f a b less =
    let next = Spells-next text from a.entries b.entries a.stop b.stop a.spelled b.spelled less in
    entry_right text a.stop next.0 next.1 (get_or b.entries (length a.entries) (pos 0)) e (b.in_range.each (length a.entries) less) next.2 a.fault

one_entry_fault : (text : List ℕ) (from wanted : ℕ) (e f : TextError) → HasEntryFault text from wanted e → HasEntryFault text from wanted f → e ≡ f
one_entry_fault text from wanted e f a b =
    elim (cases_order (length a.entries) (length b.entries)) [
      | inl same ↦
          let stops = (Spells-same text from a.entries b.entries a.stop b.stop a.spelled b.spelled same).1 in
          one_word_fault text b.stop CountDiffers NoEntry e f (λ place z x y. x.1 ∙ sym y.1)
          (entry_word text b.stop e (subst (λ (i : ℕ). IsEntryFault text i e) stops a.fault)) (entry_word text b.stop f b.fault)
      | inr (inl less) ↦ absurd (no_right_entry text from wanted e f a b less)
      | inr (inr more) ↦ absurd (no_right_entry text from wanted f e b a more)
    ]

size_or_entry : (text : List ℕ) (e f : TextError) → IsSizeFault text e → HasInstanceEntryFault text f → ⊥
size_or_entry text e f a b = instance_size text b.start b.stop b.size e b.positive b.small b.spelled a

one_behind_size : (text : List ℕ) (e f : TextError) → HasInstanceEntryFault text e → HasInstanceEntryFault text f → e ≡ f
one_behind_size text e f a b =
    let first = IsNumberAt-unique text 0 a.start a.stop b.start b.stop (pos a.size) (pos b.size) a.spelled b.spelled in
    let size : a.size ≡ b.size = cc in
    let wanted : 2 * (a.size * a.size) ≡ 2 * (b.size * b.size) = ap (λ n. 2 * (n * n)) size in
    let fault = subst (λ (n : ℕ). HasEntryFault text b.stop n e) wanted (subst (λ (i : ℕ). HasEntryFault text i (2 * (a.size * a.size)) e) first.0 a.fault) in
    one_entry_fault text b.stop (2 * (b.size * b.size)) e f fault b.fault

-- a text has one first fault at most as that of an instance
pub one_instance_fault : (text : List ℕ) (e f : TextError) → IsInstanceFault text e → IsInstanceFault text f → e ≡ f
one_instance_fault text e f a b =
    elim a [
      | inl x ↦ elim b [
        | inl y ↦ one_word_fault text 0 Empty NoSize e f (λ place z. one_no_size e f place z) (size_word text e x) (size_word text f y)
        | inr y ↦ absurd (size_or_entry text e f x y)
      ]
      | inr x ↦ elim b [
        | inl y ↦ absurd (size_or_entry text f e y x)
        | inr y ↦ one_behind_size text e f x y
      ]
    ]

-- a number that is not the size n
abbrev OtherSize : ℕ → ℕ → ℤ → TextError → Type 0
OtherSize n place z e = (z ≢ pos n) × (e ≡ SizeDiffers place)

other_size_word : (text : List ℕ) (n : ℕ) (e : TextError) → IsOtherSizeFault text n e → WordFault text 0 Empty (OtherSize n) e
other_size_word text n Empty h = is_missing h refl
other_size_word text n (NotANumber place) h = is_no_number place h refl
other_size_word text n (SizeDiffers place) h = is_judged place h.0 h.1 h.2 (h.3, refl)
other_size_word text n _ h = absurd h

-- a number that is no objective value
abbrev NoValue : ℕ → ℤ → TextError → Type 0
NoValue place z e = (10 ^ 24 < unsigned_abs z) × (e ≡ ValueRange place)

value_word : (text : List ℕ) (from : ℕ) (e : TextError) → IsValueFault text from e → WordFault text from CountDiffers NoValue e
value_word text from CountDiffers h = is_missing h refl
value_word text from (NotANumber place) h = is_no_number place h refl
value_word text from (ValueRange place) h = is_judged place h.0 h.1 h.2 (h.3, refl)
value_word text from _ h = absurd h

-- a number that is no location which the earlier ones leave
abbrev NoLocation : ℕ → List ℕ → ℕ → ℤ → TextError → Type 0
NoLocation n earlier place z e = IsNoLocation n earlier z × (e ≡ NotPermutation place)

location_word : (text : List ℕ) (from n : ℕ) (earlier : List ℕ) (e : TextError) → IsLocationFault text from n earlier e → WordFault text from CountDiffers (NoLocation n earlier) e
location_word text from n earlier CountDiffers h = is_missing h refl
location_word text from n earlier (NotANumber place) h = is_no_number place h refl
location_word text from n earlier (NotPermutation place) h = is_judged place h.0 h.1 h.2 (h.3, refl)
location_word text from n earlier _ h = absurd h

-- a location at fault has no right one in its place
no_right_location : (text : List ℕ) (from n : ℕ) (e f : TextError) (a : HasLocationFault text from n e) (b : HasLocationFault text from n f) → length a.earlier < length b.earlier → ⊥
no_right_location text from n e f a b less =
    let p = a.earlier in
    let q = b.earlier in
    let m = length p in
    let count : length (from_one p) ≡ m = length-from_one p in
    let fewer : length (from_one p) < length (from_one q) = omega (arith, count, length-from_one q) in
    let next = Spells-next text from (from_one p) (from_one q) a.stop b.stop a.spelled b.spelled fewer in
    let is : get_or (from_one q) (length (from_one p)) (pos 0) ≡ pos (get_or q m 0 + 1) =
    ap (λ i. get_or (from_one q) i (pos 0)) count ∙ from_one-at q m less in
    let same : (i : ℕ) → i < m → get_or p i 0 ≡ get_or q i 0 =
    λ i below.
    let agree : get_or (from_one p) i (pos 0) ≡ get_or (from_one q) i (pos 0) =
    Spells-agree text from (from_one p) (from_one q) a.stop b.stop a.spelled b.spelled (omega arith) i (omega (arith, count)) in
    let both : pos (get_or p i 0 + 1) ≡ pos (get_or q i 0 + 1) = sym (from_one-at p i below) ∙ agree ∙ from_one-at q i (omega arith) in
    omega (arith, ints, both) in
    location_right text a.stop next.0 next.1 n (get_or q m 0) p e
    (b.right.within m less)
    (λ i below taken.
    let again : i ≡ m = b.right.distinct i m (omega arith) less (sym (same i below) ∙ taken) in
    omega arith)
    (subst (λ (z : ℤ). IsNumberAt text a.stop next.0 next.1 z) is next.2) a.fault

one_location_fault : (text : List ℕ) (from n : ℕ) (e f : TextError) → HasLocationFault text from n e → HasLocationFault text from n f → e ≡ f
one_location_fault text from n e f a b =
    elim (cases_order (length a.earlier) (length b.earlier)) [
      | inl same ↦
          let lengths = length-from_one a.earlier ∙ same ∙ sym (length-from_one b.earlier) in
          let both = Spells-same text from (from_one a.earlier) (from_one b.earlier) a.stop b.stop a.spelled b.spelled lengths in
          let earlier = from_one-same a.earlier b.earlier both.0 in
          let fault = subst (λ (p : List ℕ). IsLocationFault text b.stop n p e) earlier (subst (λ (i : ℕ). IsLocationFault text i n a.earlier e) both.1 a.fault) in
          one_word_fault text b.stop CountDiffers (NoLocation n b.earlier) e f (λ place z x y. x.1 ∙ sym y.1)
          (location_word text b.stop n b.earlier e fault) (location_word text b.stop n b.earlier f b.fault)
      | inr (inl less) ↦ absurd (no_right_location text from n e f a b less)
      | inr (inr more) ↦ absurd (no_right_location text from n f e b a more)
    ]

one_value_fault : (text : List ℕ) (n : ℕ) (e f : TextError) → HasValueFault text n e → HasValueFault text n f → e ≡ f
one_value_fault text n e f a b =
    let stops = (IsNumberAt-unique text 0 a.start a.stop b.start b.stop (pos n) (pos n) a.size b.size).0 in
    one_word_fault text b.stop CountDiffers NoValue e f (λ place z x y. x.1 ∙ sym y.1)
    (value_word text b.stop e (subst (λ (i : ℕ). IsValueFault text i e) stops a.fault)) (value_word text b.stop f b.fault)

value_or_location : (text : List ℕ) (n : ℕ) (e f : TextError) → HasValueFault text n e → HasSolutionLocationFault text n f → ⊥
value_or_location text n e f a b =
    let size = b.spelled.2 in
    let value = b.spelled.3 in
    let stops = (IsNumberAt-unique text 0 b.spelled.0 b.spelled.1 a.start a.stop (pos n) (pos n) size a.size).0 in
    value_right text a.stop value.0 value.1 b.value e b.in_range
    (subst (λ (i : ℕ). IsNumberAt text i value.0 value.1 b.value) stops value.2) a.fault

one_behind_value : (text : List ℕ) (n : ℕ) (e f : TextError) → HasSolutionLocationFault text n e → HasSolutionLocationFault text n f → e ≡ f
one_behind_value text n e f a b =
    let stops = (Spells-same text 0 (pos n ∷ a.value ∷ []) (pos n ∷ b.value ∷ []) a.stop b.stop a.spelled b.spelled refl).1 in
    one_location_fault text b.stop n e f (subst (λ (i : ℕ). HasLocationFault text i n e) stops a.fault) b.fault

-- the same as that of a solution
pub one_solution_fault : (text : List ℕ) (n : ℕ) (e f : TextError) → IsSolutionFault text n e → IsSolutionFault text n f → e ≡ f
one_solution_fault text n e f a b =
    elim a [
      | inl x ↦ elim b [
        | inl y ↦ one_word_fault text 0 Empty (OtherSize n) e f (λ place z u v. u.1 ∙ sym v.1) (other_size_word text n e x) (other_size_word text n f y)
        | inr (inl y) ↦ absurd (solution_size text y.start y.stop n e y.size x)
        | inr (inr y) ↦ absurd (solution_size text y.spelled.0 y.spelled.1 n e y.spelled.2 x)
      ]
      | inr (inl x) ↦ elim b [
        | inl y ↦ absurd (solution_size text x.start x.stop n f x.size y)
        | inr (inl y) ↦ one_value_fault text n e f x y
        | inr (inr y) ↦ absurd (value_or_location text n e f x y)
      ]
      | inr (inr x) ↦ elim b [
        | inl y ↦ absurd (solution_size text x.spelled.0 x.spelled.1 n f x.spelled.2 y)
        | inr (inl y) ↦ absurd (value_or_location text n f e y x)
        | inr (inr y) ↦ one_behind_value text n e f x y
      ]
    ]
