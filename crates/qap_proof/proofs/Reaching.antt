-- What the duals of a split yield for a child bounds the cost of every permutation that completes the child.
use Rattle.std.proofs.Common.{◌≡◌, ℕ, ◌<◌, List, length, get_or, ℤ, pos, sym, ◌∙◌, ap, arith, inl, inr}
use Rattle.std.specs.Prelude.{◌+ℤ◌, ◌-ℤ◌, ◌≤ℤ◌}
use Rattle.std.proofs.lemmas.Bool.{cases_order, cases_eq, cond-true, cond-false, ne_eqb, eq-eqb}
use Rattle.std.proofs.lemmas.Int.{ints}
use Rattle.std.proofs.Common.{nat_eq}
use Rattle.qap_cost.specs.Sum.{sum_to}
use Rattle.qap_cost.specs.Instance.{Problem}
use Rattle.qap_cost.specs.Matrix.{Square, Assigns, DualsFit, entry_of, assigned, assignment_cost, total, dual_value}
use Rattle.qap_cost.specs.Objective.{cost_of}
use Rattle.qap_cost.specs.Placement.{Placement, IsPlacement, Completes, ListsFree, free_locations}
use Rattle.qap_cost.proofs.Bijections.{sum_to-in_order}
use Rattle.qap_cost.proofs.Placements.{ListsFree-free_below}
use Rattle.qap_cost.proofs.Sums.{sum_to-add, sum_to-monotone, only_at, sum_to-only_at}
use Rattle.gilmore_lawler.proofs.Completions.{IsSeated-from_completes}
use Rattle.qap_proof.specs.Tree.{Pair}
use Rattle.qap_proof.specs.Valid.{Reaches}

-- an assignment costs at least what the duals yield, with the entry of one row in the place of its two duals
pub dual_value_with_entry-le : (M : Square) (u v : List ℤ) (q : List ℕ) (r : ℕ) → DualsFit M u v → Assigns M q → r < M.size
    → (dual_value u v +ℤ entry_of M r (get_or q r 0) -ℤ get_or u r (pos 0) -ℤ get_or v (get_or q r 0) (pos 0)) ≤ℤ assignment_cost M q
dual_value_with_entry-le M u v q r fit is within =
    let n = M.size in
    let row : ℕ → ℤ = λ i. get_or u i (pos 0) in
    let column : ℕ → ℤ = λ k. get_or v k (pos 0) in
    let both : ℕ → ℤ = λ i. row i +ℤ column (get_or q i 0) in
    let more : ℕ → ℤ = λ i. assigned M q i -ℤ both i in
    let rows : total u ≡ sum_to row n = ap (sum_to row) fit.u_count in
    let columns : total v ≡ sum_to (λ i. column (get_or q i 0)) n =
    ap (sum_to column) (fit.v_count ∙ sym is.same_size)
    ∙ sym (sum_to-in_order column q is.bijection)
    ∙ ap (sum_to (λ i. column (get_or q i 0))) is.same_size in
    let sums : sum_to both n ≡ sum_to row n +ℤ sum_to (λ i. column (get_or q i 0)) n = sum_to-add row (λ i. column (get_or q i 0)) n in
    let apart : sum_to (λ i. both i +ℤ only_at more r i) n ≡ sum_to both n +ℤ sum_to (only_at more r) n = sum_to-add both (only_at more r) n in
    let one : sum_to (only_at more r) n ≡ more r = sum_to-only_at more r n within in
    let term : (i : ℕ) → i < n → (both i +ℤ only_at more r i) ≤ℤ assigned M q i =
    λ i below. elim (cases_eq i r) [
      | inl same ↦
          let here : only_at more r i ≡ more i = cond-true (nat_eq i r) (more i) (pos 0) (eq-eqb i r same) in
          omega (arith, ints, here)
      | inr other ↦
          let here : only_at more r i ≡ pos 0 = cond-false (nat_eq i r) (more i) (pos 0) (ne_eqb i r other) in
          let fits = fit.below i (get_or q i 0) below (omega (arith, is.same_size, is.bijection.within i)) in
          omega (arith, ints, here, fits)
    ] in
    let below : sum_to (λ i. both i +ℤ only_at more r i) n ≤ℤ assignment_cost M q = sum_to-monotone (λ i. both i +ℤ only_at more r i) (assigned M q) n term in
    omega (arith, ints, rows, columns, sums, apart, one, below)

-- a free number stands at one place of its list
pub free_place : (n : ℕ) (xs free : List ℕ) (i j : ℕ) → ListsFree n xs free → i < length free → j < length free → get_or free i 0 ≡ get_or free j 0 → i ≡ j
free_place n xs free i j listed hi hj same =
    elim (cases_order i j) [
      | inl is ↦ is
      | inr (inl less) ↦ absurd (omega (arith, listed.ascending i j less hj, same))
      | inr (inr more) ↦ absurd (omega (arith, listed.ascending j i more hi, same))
    ]

-- what the duals yield where i is put at k is at most the cost of any permutation that completes the node and does so
pub Reaches-le : (I : Problem) (x : Placement) (d : Pair) (i k : ℕ) (value : ℤ) (p : List ℕ) → IsPlacement x → I.size ≡ x.size → Reaches I x d i k value → Completes x p → get_or p i 0 ≡ k → value ≤ℤ cost_of I p
Reaches-le I x d i k value p placement same h done stands =
    let M = h.fits.matrix in
    let seated = IsSeated-from_completes I x M p placement same h.fits.reduced done in
    let seat = seated.seat in
    let s = seated.seating in
    let row_in : h.row < length seat = omega (arith, h.row_within, s.rows) in
    let size : M.size ≡ length seat = h.fits.reduced.size ∙ sym s.rows in
    let at : get_or (free_locations x) (get_or seat h.row 0) 0 ≡ get_or (free_locations x) h.column 0 =
    sym (s.stands h.row row_in) ∙ ap (λ j. get_or p j 0) h.row_of ∙ stands ∙ sym h.column_of in
    let column : get_or seat h.row 0 ≡ h.column =
    free_place x.size x.places (free_locations x) (get_or seat h.row 0) h.column (ListsFree-free_below x.size x.places placement.places) (omega (arith, s.columns, s.bijection.within h.row row_in)) h.column_within at in
    let least = dual_value_with_entry-le M d.u d.v seat h.row h.fits.fits (record { bijection = s.bijection; same_size = sym size }) (omega (arith, size)) in
    let entry = ap (λ (c : ℕ). entry_of M h.row c) column in
    let dual = ap (λ (c : ℕ). get_or d.v c (pos 0)) column in
    omega (arith, ints, seated.below, h.is, least, entry, dual)
