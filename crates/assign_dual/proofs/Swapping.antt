-- Two numbers of a permutation change places.
use Rattle.std.proofs.Common.{◌≡◌, ◌≢◌, ℕ, ◌<◌, ◌≤◌, List, length, get_or, arith, refl, sym, ◌∙◌, ap, inl, inr}
use Rattle.std.proofs.lemmas.Bool.{cases_eq}
use Rattle.std.proofs.lemmas.List.Edits.{Swapped}
use Rattle.qap_cost.specs.Bijection.{IsBijection}
use Rattle.assign_dual.specs.Steps.{KeepsScanned}

-- where the number at place i comes from
record From (a b i s : ℕ) : Type 0 where
  from_first : i ≡ a → s ≡ b
  from_second : i ≡ b → s ≡ a
  from_other : i ≢ a → i ≢ b → s ≡ i

source : (xs ys : List ℕ) (a b : ℕ) → Swapped (λ i. get_or xs i 0) (λ i. get_or ys i 0) a b → (i : ℕ) →
    (s : ℕ) × (get_or ys i 0 ≡ get_or xs s 0) × From a b i s
source xs ys a b sw i =
    elim (cases_eq i a) [
      | inl e ↦ (b, ap (λ j. get_or ys j 0) e ∙ sw.0, record { from_first = λ x. refl; from_second = λ x. omega arith; from_other = λ n m. absurd (n e) })
      | inr n ↦ elim (cases_eq i b) [
        | inl e ↦ (a, ap (λ j. get_or ys j 0) e ∙ sw.1, record { from_first = λ x. absurd (n x); from_second = λ x. refl; from_other = λ _ m. absurd (m e) })
        | inr m ↦ (i, sw.2 i n m, record { from_first = λ x. absurd (n x); from_second = λ x. absurd (m x); from_other = λ _ _. refl })
      ]
    ]

same_place : (a b i j s t : ℕ) → From a b i s → From a b j t → s ≡ t → i ≡ j
same_place a b i j s t f g e =
    elim (cases_eq i a) [
      | inl ia ↦ elim (cases_eq j a) [
        | inl ja ↦ ia ∙ sym ja
        | inr na ↦ elim (cases_eq j b) [
          | inl jb ↦ omega (arith, f.from_first ia, g.from_second jb)
          | inr nb ↦ absurd (nb (sym (g.from_other na nb) ∙ sym e ∙ f.from_first ia))
        ]
      ]
      | inr ni ↦ elim (cases_eq i b) [
        | inl ib ↦ elim (cases_eq j b) [
          | inl jb ↦ ib ∙ sym jb
          | inr nb ↦ elim (cases_eq j a) [
            | inl ja ↦ omega (arith, f.from_second ib, g.from_first ja)
            | inr na ↦ absurd (na (sym (g.from_other na nb) ∙ sym e ∙ f.from_second ib))
          ]
        ]
        | inr mi ↦ elim (cases_eq j a) [
          | inl ja ↦ absurd (mi (sym (f.from_other ni mi) ∙ e ∙ g.from_first ja))
          | inr na ↦ elim (cases_eq j b) [
            | inl jb ↦ absurd (ni (sym (f.from_other ni mi) ∙ e ∙ g.from_second jb))
            | inr nb ↦ sym (f.from_other ni mi) ∙ e ∙ g.from_other na nb
          ]
        ]
      ]
    ]

source_within : (n a b i s : ℕ) → a < n → b < n → i < n → From a b i s → s < n
source_within n a b i s ha hb hi f =
    elim (cases_eq i a) [
      | inl e ↦ omega (arith, f.from_first e)
      | inr na ↦ elim (cases_eq i b) [
        | inl e ↦ omega (arith, f.from_second e)
        | inr nb ↦ omega (arith, f.from_other na nb)
      ]
    ]

-- a permutation with two of its numbers swapped is a permutation
pub IsBijection-swapped : (xs ys : List ℕ) (a b : ℕ) → IsBijection xs → length ys ≡ length xs → a < length xs → b < length xs →
    Swapped (λ i. get_or xs i 0) (λ i. get_or ys i 0) a b → IsBijection ys
IsBijection-swapped xs ys a b order count ha hb sw = record {
  within = λ i hi.
      let r = source xs ys a b sw i in
      let hs : r.0 < length xs = source_within (length xs) a b i r.0 ha hb (omega (arith, hi, count)) r.2 in
      omega (arith, r.1, order.within r.0 hs, count);
  distinct = λ i j hi hj e.
      let r = source xs ys a b sw i in
      let t = source xs ys a b sw j in
      let hs : r.0 < length xs = source_within (length xs) a b i r.0 ha hb (omega (arith, hi, count)) r.2 in
      let ht : t.0 < length xs = source_within (length xs) a b j t.0 ha hb (omega (arith, hj, count)) t.2 in
      same_place a b i j r.0 t.0 r.2 t.2 (order.distinct r.0 t.0 hs ht (sym r.1 ∙ e ∙ t.1));
}

-- to swap the next column with a later one keeps those that are scanned
pub KeepsScanned-swapped : (xs ys : List ℕ) (done b : ℕ) → done ≤ b → b < length xs →
    Swapped (λ i. get_or xs i 0) (λ i. get_or ys i 0) done b → KeepsScanned xs ys done
KeepsScanned-swapped xs ys done b from hb sw = record {
  same = λ q h. sw.2 q (λ e. omega arith) (λ e. omega arith);
  later = λ q h hq.
      let r = source xs ys done b sw q in
      let f = r.2 in
      let after : done ≤ r.0 =
      elim (cases_eq q done) [
        | inl e ↦ omega (arith, f.from_first e)
        | inr n ↦ elim (cases_eq q b) [
          | inl e ↦ omega (arith, f.from_second e)
          | inr m ↦ omega (arith, f.from_other n m)
        ]
      ] in (r.0, after, source_within (length xs) done b q r.0 (omega arith) hb hq f, r.1);
}
