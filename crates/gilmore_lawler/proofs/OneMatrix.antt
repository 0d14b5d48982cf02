-- A node has one reduced matrix.
use Rattle.std.proofs.Common.{◌≡◌, ℕ, zero, suc, ◌+◌, ◌*◌, ◌/◌, ◌%◌, ◌<◌, ◌≤◌, sym, ◌∙◌, ap, ap₂, arith, List, length, get_or, inl, inr}
use Rattle.std.specs.Prelude.{ℤ, pos, ◌+ℤ◌}
use Rattle.std.proofs.lemmas.Int.{ints}
use Rattle.std.proofs.lemmas.Bool.{cases_lt}
use Rattle.std.proofs.lemmas.Nat.{mul-le, mod_below}
use Rattle.std.proofs.Math.Nat.{div-add-mod, mul_comm}
use Rattle.std.proofs.lemmas.List.{ext_get_or}
use Rattle.qap_cost.specs.Instance.{Problem}
use Rattle.qap_cost.specs.Matrix.{Square, IsMatrix, entry_of}
use Rattle.qap_cost.specs.Placement.{Placement, free_facilities, free_locations}
use Rattle.gilmore_lawler.specs.LeastProduct.{IsLeastProduct}
use Rattle.gilmore_lawler.specs.ReducedMatrix.{IsReduced, IsReducedEntry, linear_cost}

-- two lists have one least sum of products
IsLeastProduct-unique : (xs ys : List ℤ) (r s : ℤ) → IsLeastProduct xs ys r → IsLeastProduct xs ys s → r ≡ s
IsLeastProduct-unique xs ys r s a b =
    let above = a.least b.reached.0 b.reached.1 in
    let below = b.least a.reached.0 a.reached.1 in
    omega (arith, ints, above, below, a.reached.2, b.reached.2)

IsReducedEntry-unique : (I : Problem) (x : Placement) (r c : ℕ) (s t : ℤ) → IsReducedEntry I x r c s → IsReducedEntry I x r c t → s ≡ t
IsReducedEntry-unique I x r c s t a b =
    a.sum ∙ ap (λ z. linear_cost I x (get_or (free_facilities x) r 0) (get_or (free_locations x) c 0) +ℤ z) (IsLeastProduct-unique _ _ a.least b.least a.is_least b.is_least) ∙ sym b.sum

-- a square above some number is that of a positive number
pub positive_root : (n k : ℕ) → k < n * n → 0 < n
positive_root zero k h = omega arith
positive_root (suc n) k h = omega arith

-- the row of an entry of an n by n matrix is below n
pub row_below : (n r c k : ℕ) → k < n * n → r * n + c ≡ k → r < n
row_below n r c k h e =
    elim (cases_lt r n) [
      | inl less ↦ less
      | inr more ↦ let past : n * n ≤ r * n = mul-le _ _ _ _ more (omega arith) in absurd (omega (arith, past))
    ]

-- a node has one reduced matrix
pub reduced_unique : (I : Problem) (x : Placement) (M N : Square) → IsMatrix M → IsMatrix N → IsReduced I x M → IsReduced I x N → M ≡ N
reduced_unique I x M N im in' a b =
    let n = M.size in
    let size : M.size ≡ N.size = a.size ∙ sym b.size in
    let count : length N.entries ≡ n * n = in'.count ∙ ap₂ ◌*◌ (sym size) (sym size) in
    let each : (k : ℕ) → k < length M.entries → get_or M.entries k (pos 0) ≡ get_or N.entries k (pos 0) =
    λ k h.
    let below : k < n * n = omega (arith, im.count) in
    let positive : 0 < n = positive_root n k below in
    let r = k / n in
    let c = k % n in
    let at : r * n + c ≡ k = omega (arith, div-add-mod k n, mul_comm n r) in
    let hr : r < n = row_below n r c k below at in
    let hc : c < n = mod_below k n positive in
    ap (λ j. get_or M.entries j (pos 0)) (sym at)
    ∙ IsReducedEntry-unique I x r c (entry_of M r c) (entry_of N r c) (a.entries r c hr hc) (b.entries r c (omega (arith, size)) (omega (arith, size)))
    ∙ ap (λ m. get_or N.entries (r * m + c) (pos 0)) (sym size)
    ∙ ap (λ j. get_or N.entries j (pos 0)) at in
    ap₂ (λ (k : ℕ) (xs : List ℤ). let S : Square = record { size = k; entries = xs } in S) size (ext_get_or (pos 0) M.entries N.entries (im.count ∙ sym count) each)
