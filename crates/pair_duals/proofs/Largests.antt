-- The greatest absolute value of a matrix, row by row.
use Rattle.std.proofs.Common.{◌≡◌, ℕ, ◌+◌, ◌*◌, ◌<◌, ◌≤◌, ◌^◌, arith, subst, sym, ◌∙◌, ap, List, length, get_or, take, inl, inr, refl, lit≤}
use Rattle.std.specs.Prelude.{ℤ, pos, unsigned_abs, ◌⊎◌}
use Rattle.std.proofs.lemmas.Bool.{cases_lt}
use Rattle.std.proofs.lemmas.List.{get_or-take, length-take-le}
use Rattle.std.proofs.lemmas.Nat.{mul-le}
use Rattle.std.proofs.Math.Nat.{mul-le-mul_left}
use Rattle.qap_cost.specs.Instance.{Problem, entry}
use Rattle.qap_cost.specs.Row.{IsRow}
use Rattle.pair_duals.specs.Largest.{IsLargest, IsLargestSoFar, IsLargestOfRow}
use Rattle.pair_duals.specs.Limits.{Limits}
use Rattle.pair_duals.specs.Range.{IsInScale}

-- no row yet: the greatest absolute value is 0
pub IsLargestSoFar-none : (n : ℕ) (matrix : List ℤ) → IsLargestSoFar n matrix 0 0
IsLargestSoFar-none n matrix = record {
  above = λ i j hi hj. absurd (omega arith);
  reached = inl refl;
  small = lit≤ tt;
}

-- one row more
pub IsLargestSoFar-more : (n : ℕ) (matrix : List ℤ) (i before largest : ℕ) (row : List ℤ) → IsLargestSoFar n matrix i before → IsRow n matrix i row → IsLargestOfRow row before largest → IsLargestSoFar n matrix (i + 1) largest
IsLargestSoFar-more n matrix i before largest row h is r = record {
  above = λ k j hk hj.
      elim (cases_lt k i) [
        | inl less ↦ omega (arith, h.above k j less hj, r.above_before)
        | inr more ↦
            let same : k ≡ i = omega arith in
            let at : unsigned_abs (entry n matrix k j) ≡ unsigned_abs (get_or row j (pos 0)) = ap (λ l. unsigned_abs (entry n matrix l j)) same ∙ ap unsigned_abs (sym (is.entries j hj)) in
            omega (arith, at, r.above j (omega (arith, is.count)))
      ];
  reached = elim r.reached [
    | inl same ↦ elim h.reached [
      | inl none ↦ inl (same ∙ none)
      | inr found ↦ inr (found.0, found.1, omega (arith, found.2), found.3, same ∙ found.4)
    ]
    | inr found ↦ inr (i, found.0, omega arith, omega (arith, found.1, is.count), found.2 ∙ ap unsigned_abs (is.entries found.0 (omega (arith, found.1, is.count))))
  ];
  small = r.small;
}

-- once all rows were seen, it is the greatest of the matrix
pub IsLargest-all : (n : ℕ) (matrix : List ℤ) (largest : ℕ) → 0 < n → IsLargestSoFar n matrix n largest → IsLargest n matrix largest
IsLargest-all n matrix largest h is = record {
  above = is.above;
  reached = elim is.reached [
    | inl none ↦ (0, 0, h, h, omega (arith, none, is.above 0 0 h h))
    | inr found ↦ found
  ];
  small = is.small;
}

-- the greatest product tells whether all of them are below a limit
pub in_scale : (m : Limits) (I : Problem) (scale a b : ℕ) → IsLargest I.size I.a a → IsLargest I.size I.b b → scale * (a * b) ≤ m.cost → IsInScale m I scale
in_scale m I scale a b ha hb h = record {
  below = λ i j k l hi hj hk hl.
      let product : unsigned_abs (entry I.size I.a i j) * unsigned_abs (entry I.size I.b k l) ≤ a * b = mul-le _ _ _ _ (ha.above i j hi hj) (hb.above k l hk hl) in
      omega (arith, h, mul-le-mul_left scale product);
}

-- and where all products are within the limit, the greatest one is
pub from_scale : (m : Limits) (I : Problem) (scale a b : ℕ) → IsLargest I.size I.a a → IsLargest I.size I.b b → IsInScale m I scale → scale * (a * b) ≤ m.cost
from_scale m I scale a b ha hb h =
    let ra = ha.reached in
    let rb = hb.reached in
    subst (λ (z : ℕ). scale * (z * b) ≤ m.cost) (sym ra.4)
    (subst (λ (z : ℕ). scale * (unsigned_abs (entry I.size I.a ra.0 ra.1) * z) ≤ m.cost) (sym rb.4)
    (h.below ra.0 ra.1 rb.0 rb.1 ra.2 ra.3 rb.2 rb.3))

-- of a number and an empty row it is the number
pub IsLargestOfRow-none : (row : List ℤ) (before : ℕ) → before ≤ 10 ^ 9 → length row ≡ 0 → IsLargestOfRow row before before
IsLargestOfRow-none row before small none = record {
  above_before = omega arith;
  above = λ j h. absurd (omega arith);
  reached = inl refl;
  small = small;
}

-- one number more
pub IsLargestOfRow-more : (row : List ℤ) (k before old new : ℕ) → k < length row → unsigned_abs (get_or row k (pos 0)) ≤ 10 ^ 9 → IsLargestOfRow (take k row) before old → ((old < unsigned_abs (get_or row k (pos 0))) × (new ≡ unsigned_abs (get_or row k (pos 0)))) ⊎ ((unsigned_abs (get_or row k (pos 0)) ≤ old) × (new ≡ old)) → IsLargestOfRow (take (k + 1) row) before new
IsLargestOfRow-more row k before old new inside small h which =
    let count = length-take-le k row (omega arith) in
    let more = length-take-le (k + 1) row (omega arith) in
    let at : (j : ℕ) → j < k → get_or (take (k + 1) row) j (pos 0) ≡ get_or (take k row) j (pos 0) = λ j below. get_or-take (k + 1) row j (pos 0) (omega arith) ∙ sym (get_or-take k row j (pos 0) below) in
    let last : get_or (take (k + 1) row) k (pos 0) ≡ get_or row k (pos 0) = get_or-take (k + 1) row k (pos 0) (omega arith) in
    record {
      above_before = elim which [ inl w ↦ omega (arith, w, h.above_before) | inr w ↦ omega (arith, w, h.above_before) ];
      above = λ j hj.
          elim (cases_lt j k) [
            | inl less ↦
                let old_is = h.above j (omega (arith, count)) in
                let e = ap unsigned_abs (at j less) in
                elim which [ inl w ↦ omega (arith, w, old_is, e) | inr w ↦ omega (arith, w, old_is, e) ]
            | inr past ↦
                let same : j ≡ k = omega (arith, more) in
                let e : unsigned_abs (get_or (take (k + 1) row) j (pos 0)) ≡ unsigned_abs (get_or row k (pos 0)) = ap (λ i. unsigned_abs (get_or (take (k + 1) row) i (pos 0))) same ∙ ap unsigned_abs last in
                elim which [ inl w ↦ omega (arith, w, e) | inr w ↦ omega (arith, w, e) ]
          ];
      reached = elim which [
        | inl w ↦ inr (k, omega (arith, more), w.1 ∙ sym (ap unsigned_abs last))
        | inr w ↦ elim h.reached [
          | inl same ↦ inl (w.1 ∙ same)
          | inr found ↦ inr (found.0, omega (arith, found.1, count, more), w.1 ∙ found.2 ∙ sym (ap unsigned_abs (at found.0 (omega (arith, found.1, count)))))
        ]
      ];
      small = elim which [ inl w ↦ omega (arith, w, small) | inr w ↦ omega (arith, w, h.small) ];
    }
