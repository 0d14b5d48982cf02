-- An instance's text is that of one instance, and has no fault.
use Rattle.std.proofs.Common.{◌≡◌, ℕ, ◌*◌, ◌<◌, ◌≤◌, List, ◌++◌, length, get_or, take, drop, ℤ, pos, sym, ◌∙◌, ap, subst, inl, inr, arith, length-append}
use Rattle.std.specs.Prelude.{◌≤ℤ◌, ◌<ℤ◌, unsigned_abs}
use Rattle.std.proofs.lemmas.Int.{ints}
use Rattle.std.proofs.Math.Seq.{take-append_seam, drop-append_seam}
use Rattle.qap_cost.specs.Instance.{Problem, InRange}
use Rattle.qap_cost.specs.Row.{AllInRange}
use Rattle.qap_text.specs.Spelling.{IsNumberAt, Spells}
use Rattle.qap_text.specs.InstanceText.{IsInstanceText, IsSizeFault, IsEntryFault, IsInstanceFault}
use Rattle.qap_text.specs.declared.error.TextError.{TextError}
use Rattle.qap_text.specs.declared.error.TextError.TheVariants.{Empty, NotANumber, SizeZero, SizeTooLarge, EntryRange, CountDiffers}
use Rattle.qap_text.proofs.OneReading.{IsNumberAt-unique, no_word-word, no_number-number, Spells-same, Spells-next}
use Rattle.qap_text.proofs.Spellings.{AllInRange-append}

-- two lists in a row, of which the first one's length is known, are determined by the row
append_parts : (a b c d : List ℤ) → length a ≡ length c → a ++ b ≡ c ++ d → (a ≡ c) × (b ≡ d)
append_parts a b c d same e = (
  sym (take-append_seam a b) ∙ ap (λ n. take n (a ++ b)) same ∙ ap (take (length c)) e ∙ take-append_seam c d,
  sym (drop-append_seam a b) ∙ ap (λ n. drop n (a ++ b)) same ∙ ap (drop (length c)) e ∙ drop-append_seam c d,
)

abbrev problem_of : ℕ → List ℤ → List ℤ → Problem
problem_of n a b = record { size = n; a = a; b = b }

-- a text is that of one instance
pub IsInstanceText-unique : (text : List ℕ) (I J : Problem) (r s : List ℕ) → IsInstanceText text I r → IsInstanceText text J s → (I ≡ J) × (r ≡ s)
IsInstanceText-unique text I J r s a b =
    let first = IsNumberAt-unique text 0 a.spelled.0 a.spelled.1 b.spelled.0 b.spelled.1 (pos I.size) (pos J.size) a.spelled.2 b.spelled.2 in
    let size : I.size ≡ J.size = cc in
    let squares : I.size * I.size ≡ J.size * J.size = ap (λ n. n * n) size in
    let entries = Spells-same text b.spelled.1 (I.a ++ I.b) (J.a ++ J.b) a.stop b.stop
    (subst (λ (i : ℕ). Spells text i (I.a ++ I.b) a.stop) first.0 a.spelled.3) b.spelled.3
    (omega (arith, length-append I.a I.b, length-append J.a J.b, a.instance.a_count, a.instance.b_count, b.instance.a_count, b.instance.b_count)) in
    let parts = append_parts I.a I.b J.a J.b (a.instance.a_count ∙ squares ∙ sym b.instance.a_count) entries.0 in (
      ap (λ m. problem_of m I.a I.b) size ∙ ap (λ x. problem_of J.size x I.b) parts.0 ∙ ap (λ y. problem_of J.size J.a y) parts.1,
      a.follows ∙ ap (λ n. drop n text) entries.1 ∙ sym b.follows,
    )

-- a text that begins with a size from 1 to 256 has no fault there
pub size_right : (text : List ℕ) (start stop n : ℕ) (e : TextError) → 0 < n → n ≤ 256 → IsNumberAt text 0 start stop (pos n) → IsSizeFault text e → ⊥
size_right text start stop n Empty positive small number fault = no_word-word text 0 start stop fault number.word
size_right text start stop n (NotANumber place) positive small number fault = no_number-number text 0 place start stop (pos n) fault number
size_right text start stop n (SizeZero place) positive small number fault =
    let same : pos n ≡ fault.1 = (IsNumberAt-unique text 0 start stop place fault.0 (pos n) fault.1 number fault.2).1 in
    let low : fault.1 ≤ℤ pos 0 = fault.3 in
    omega (arith, ints)
size_right text start stop n (SizeTooLarge place) positive small number fault =
    let same : pos n ≡ fault.1 = (IsNumberAt-unique text 0 start stop place fault.0 (pos n) fault.1 number fault.2).1 in
    let high : pos 256 <ℤ fault.1 = fault.3 in
    omega (arith, ints)
size_right text start stop n _ positive small number fault = absurd fault

-- an entry in range has no fault
pub entry_right : (text : List ℕ) (from start stop : ℕ) (z : ℤ) (e : TextError) → InRange z → IsNumberAt text from start stop z → IsEntryFault text from e → ⊥
entry_right text from start stop z CountDiffers in_range number fault = no_word-word text from start stop fault number.word
entry_right text from start stop z (NotANumber place) in_range number fault = no_number-number text from place start stop z fault number
entry_right text from start stop z (EntryRange place) in_range number fault =
    let same : z ≡ fault.1 = (IsNumberAt-unique text from start stop place fault.0 z fault.1 number fault.2).1 in
    let outside : 1000000000 < unsigned_abs fault.1 = fault.3 in
    let inside : unsigned_abs fault.1 ≤ 1000000000 = subst InRange same in_range in
    omega arith
entry_right text from start stop z _ in_range number fault = absurd fault

-- a text of an instance has no fault
pub IsInstanceText-right : (text : List ℕ) (I : Problem) (r : List ℕ) (e : TextError) → IsInstanceText text I r → IsInstanceFault text e → ⊥
IsInstanceText-right text I r e a fault =
    elim fault [
      | inl size ↦ size_right text a.spelled.0 a.spelled.1 I.size e a.instance.positive a.instance.small a.spelled.2 size
      | inr entry ↦
          let first = IsNumberAt-unique text 0 a.spelled.0 a.spelled.1 entry.start entry.stop (pos I.size) (pos entry.size) a.spelled.2 entry.spelled in
          let size : I.size ≡ entry.size = cc in
          let squares : I.size * I.size ≡ entry.size * entry.size = ap (λ n. n * n) size in
          let f = entry.fault in
          let both = I.a ++ I.b in
          let fewer : length f.entries < length both =
          omega (arith, f.too_few, length-append I.a I.b, a.instance.a_count, a.instance.b_count) in
          let next = Spells-next text a.spelled.1 f.entries both f.stop a.stop
          (subst (λ (i : ℕ). Spells text i f.entries f.stop) (sym first.0) f.spelled) a.spelled.3 fewer in
          let range : AllInRange both = AllInRange-append I.a I.b
          (record { each = λ j h. a.instance.a_range j (omega (arith, a.instance.a_count)) })
          (record { each = λ j h. a.instance.b_range j (omega (arith, a.instance.b_count)) }) in
          entry_right text f.stop next.0 next.1 (get_or both (length f.entries) (pos 0)) e (range.each (length f.entries) fewer) next.2 f.fault
    ]
