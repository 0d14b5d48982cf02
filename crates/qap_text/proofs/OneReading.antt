-- A text can be read in one way alone.
use Rattle.std.proofs.Common.{◌≡◌, ℕ, zero, suc, ◌<◌, ◌≤◌, true, false, List, [], ◌∷◌, length, get_or, slice_range, ℤ, pos, refl, sym, ◌∙◌, ap, subst, inl, inr, arith}
use Rattle.std.specs.Prelude.{Some, None}
use Rattle.std.proofs.lemmas.Bool.{both_ways, cases_order}
use Rattle.qap_text.specs.Word.{is_separator, IsWordAt, HasNoWord}
use Rattle.qap_text.specs.Number.{number_of}
use Rattle.qap_text.specs.Spelling.{IsNumberAt, IsNoNumberAt, Spells}

clash : (text : List ℕ) (k : ℕ) → is_separator (get_or text k 0) ≡ true → is_separator (get_or text k 0) ≡ false → ⊥
clash text k separates belongs = both_ways (is_separator (get_or text k 0)) belongs separates

-- there is one first word
pub IsWordAt-unique : (text : List ℕ) (from s t u v : ℕ) → IsWordAt text from s t → IsWordAt text from u v → (s ≡ u) × (t ≡ v)
IsWordAt-unique text from s t u v a b =
    let starts : s ≡ u =
    elim (cases_order s u) [
      | inl same ↦ same
      | inr (inl less) ↦ absurd (clash text s (b.gap s a.from_here less) (a.letters s (omega arith) a.not_empty))
      | inr (inr more) ↦ absurd (clash text u (a.gap u b.from_here more) (b.letters u (omega arith) b.not_empty))
    ] in (
      starts,
      elim (cases_order t v) [
        | inl same ↦ same
        | inr (inl less) ↦ absurd (clash text t (a.longest (omega (arith, b.in_text))) (b.letters t (omega (arith, starts, a.not_empty)) less))
        | inr (inr more) ↦ absurd (clash text v (b.longest (omega (arith, a.in_text))) (a.letters v (omega (arith, starts, b.not_empty)) more))
      ],
    )

-- where a word stands there is one
pub no_word-word : (text : List ℕ) (from s t : ℕ) → HasNoWord text from → IsWordAt text from s t → ⊥
no_word-word text from s t none word =
    clash text s (none.gap s word.from_here (omega (arith, word.not_empty, word.in_text))) (word.letters s (omega arith) word.not_empty)

-- there is one number
pub IsNumberAt-unique : (text : List ℕ) (from s t u v : ℕ) (y z : ℤ) → IsNumberAt text from s t y → IsNumberAt text from u v z → (t ≡ v) × (y ≡ z)
IsNumberAt-unique text from s t u v y z a b =
    let same = IsWordAt-unique text from s t u v a.word b.word in
    let some : Some y ≡ Some z =
    sym a.number ∙ ap (λ i. number_of (slice_range text i t)) same.0 ∙ ap (λ j. number_of (slice_range text u j)) same.1 ∙ b.number in
    (same.1, cc)

-- what stands next in a text isn't both a number and none
pub no_number-number : (text : List ℕ) (from s u v : ℕ) (z : ℤ) → IsNoNumberAt text from s → IsNumberAt text from u v z → ⊥
no_number-number text from s u v z a b =
    let same = IsWordAt-unique text from s a.stop u v a.word b.word in
    let none : None ≡ Some z =
    sym a.no_number ∙ ap (λ i. number_of (slice_range text i a.stop)) same.0 ∙ ap (λ j. number_of (slice_range text u j)) same.1 ∙ b.number in
    cc

-- as many numbers, the same numbers
pub Spells-same : (text : List ℕ) (from : ℕ) (xs ys : List ℤ) (j k : ℕ) → Spells text from xs j → Spells text from ys k → length xs ≡ length ys → (xs ≡ ys) × (j ≡ k)
Spells-same text from [] [] j k a b e = (refl, sym a ∙ b)
Spells-same text from [] (y ∷ ys) j k a b e = absurd (omega arith)
Spells-same text from (x ∷ xs) [] j k a b e = absurd (omega arith)
Spells-same text from (x ∷ xs) (y ∷ ys) j k a b e =
    let first = IsNumberAt-unique text from a.0 a.1 b.0 b.1 x y a.2 b.2 in
    let rest = Spells-same text b.1 xs ys j k (subst (λ (i : ℕ). Spells text i xs j) first.0 a.3) b.3 (omega arith) in
    (ap (λ z. z ∷ xs) first.1 ∙ ap (λ zs. y ∷ zs) rest.0, rest.1)

-- fewer numbers: the next of the others follows
pub Spells-next : (text : List ℕ) (from : ℕ) (xs ys : List ℤ) (j k : ℕ) → Spells text from xs j → Spells text from ys k → length xs < length ys → (start next : ℕ) × IsNumberAt text j start next (get_or ys (length xs) (pos 0))
Spells-next text from xs [] j k a b less = absurd (omega arith)
Spells-next text from [] (y ∷ ys) j k a b less = (b.0, b.1, subst (λ (i : ℕ). IsNumberAt text i b.0 b.1 y) a b.2)
Spells-next text from (x ∷ xs) (y ∷ ys) j k a b less =
    let first = IsNumberAt-unique text from a.0 a.1 b.0 b.1 x y a.2 b.2 in
    Spells-next text b.1 xs ys j k (subst (λ (i : ℕ). Spells text i xs j) first.0 a.3) b.3 (omega arith)

-- fewer numbers: they are those at the front of the others
pub Spells-agree : (text : List ℕ) (from : ℕ) (xs ys : List ℤ) (j k : ℕ) → Spells text from xs j → Spells text from ys k → length xs ≤ length ys → (i : ℕ) → i < length xs → get_or xs i (pos 0) ≡ get_or ys i (pos 0)
Spells-agree text from [] ys j k a b less i below = absurd (omega arith)
Spells-agree text from (x ∷ xs) [] j k a b less i below = absurd (omega arith)
Spells-agree text from (x ∷ xs) (y ∷ ys) j k a b less zero below =
    (IsNumberAt-unique text from a.0 a.1 b.0 b.1 x y a.2 b.2).1
Spells-agree text from (x ∷ xs) (y ∷ ys) j k a b less (suc i) below =
    let first = IsNumberAt-unique text from a.0 a.1 b.0 b.1 x y a.2 b.2 in
    Spells-agree text b.1 xs ys j k (subst (λ (m : ℕ). Spells text m xs j) first.0 a.3) b.3 (omega arith) i (omega arith)
