-- Rows and double sums: what the rows of an instance give, and what exchanging the matrices does.
use Rattle.std.proofs.Common.{◌≡◌, ℕ, ◌<◌, List, length, get_or, sym, ◌∙◌, ap, ap₂, arith, w64, to_z, of_z}
use Rattle.std.specs.Prelude.{ℤ, ◌*ℤ◌}
use Rattle.std.proofs.lemmas.Int.{to_z-of_z, fits_signed_from_abs}
use Rattle.std.proofs.Math.IntN.{*ℤ_comm}
use Rattle.qap_cost.specs.Sum.{sum_to}
use Rattle.qap_cost.specs.Bijection.{IsBijection, IsInverse}
use Rattle.qap_cost.specs.Instance.{Problem, entry}
use Rattle.qap_cost.specs.Range.{InRange}
use Rattle.qap_cost.specs.Row.{IsRow, product_at}
use Rattle.qap_cost.specs.Objective.{pair_cost, row_cost, cost_of, exchanged}
use Rattle.qap_cost.proofs.Sums.{sum_to-same}
use Rattle.qap_cost.proofs.Bijections.{sum_to-reindex}

-- an entry is read as it was written
pub reads_entry : (x : ℤ) → InRange x → to_z w64 (of_z w64 x) ≡ x
reads_entry x h = to_z-of_z w64 x (fits_signed_from_abs w64 x (omega arith))

-- the products of two rows are what a facility costs with each other one
pub products-row_cost : (I : Problem) (p : List ℕ) (i : ℕ) (xs ys : List ℤ) → IsBijection p → length p ≡ I.size → IsRow I.size I.a i xs → IsRow I.size I.b (get_or p i 0) ys → sum_to (product_at xs ys p) (length p) ≡ row_cost I p i
products-row_cost I p i xs ys b same x y =
    sum_to-same (product_at xs ys p) (pair_cost I p i) (length p) (λ j h.
    ap₂ ◌*ℤ◌ (x.entries j (omega arith)) (y.entries (get_or p j 0) (omega (arith, b.within j h))))
    ∙ ap (sum_to (pair_cost I p i)) same

-- what a permutation costs with the matrices exchanged, its inverse costs as they were
pub cost_of-exchanged : (I : Problem) (p q : List ℕ) → IsBijection p → length p ≡ I.size → IsInverse p q → cost_of (exchanged I) p ≡ cost_of I q
cost_of-exchanged I p q b same v =
    let n = I.size in
    let swapped : (i j : ℕ) → i < n → j < n → pair_cost (exchanged I) p i j ≡ pair_cost I q (get_or p i 0) (get_or p j 0) =
    λ i j hi hj.
    *ℤ_comm (entry n I.b i j) (entry n I.a (get_or p i 0) (get_or p j 0))
    ∙ ap₂ (λ k l. entry n I.a (get_or p i 0) (get_or p j 0) *ℤ entry n I.b k l) (sym (v.there i (omega arith))) (sym (v.there j (omega arith))) in
    let reindexed : (f : ℕ → ℤ) → sum_to (λ i. f (get_or p i 0)) n ≡ sum_to f n =
    λ f. ap (sum_to (λ i. f (get_or p i 0))) (sym same) ∙ sum_to-reindex f p q b v ∙ ap (sum_to f) same in
    let rows : (i : ℕ) → i < n → row_cost (exchanged I) p i ≡ row_cost I q (get_or p i 0) =
    λ i hi.
    sum_to-same (pair_cost (exchanged I) p i) (λ j. pair_cost I q (get_or p i 0) (get_or p j 0)) n (λ j hj. swapped i j hi hj)
    ∙ reindexed (pair_cost I q (get_or p i 0)) in
    sum_to-same (row_cost (exchanged I) p) (λ i. row_cost I q (get_or p i 0)) n rows
    ∙ reindexed (row_cost I q)
