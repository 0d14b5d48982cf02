-- Weak duality of the assignment problem.
use Rattle.std.proofs.Common.{◌≡◌, ℕ, List, get_or, sym, ◌∙◌, ap, arith}
use Rattle.std.specs.Prelude.{ℤ, pos, ◌+ℤ◌, ◌≤ℤ◌}
use Rattle.std.proofs.lemmas.Int.{ints}
use Rattle.qap_cost.specs.Sum.{sum_to}
use Rattle.qap_cost.specs.Matrix.{Square, Assigns, DualsFit, assigned, assignment_cost, total, dual_value}
use Rattle.qap_cost.proofs.Sums.{sum_to-add, sum_to-monotone}
use Rattle.qap_cost.proofs.Bijections.{sum_to-in_order}

-- where duals fit, no assignment costs less than their sum
pub dual_value-le : (M : Square) (u v : List ℤ) (p : List ℕ) → DualsFit M u v → Assigns M p → dual_value u v ≤ℤ assignment_cost M p
dual_value-le M u v p fit is =
    let n = M.size in
    let row : ℕ → ℤ = λ i. get_or u i (pos 0) in
    let column : ℕ → ℤ = λ k. get_or v k (pos 0) in
    let both : ℕ → ℤ = λ i. row i +ℤ column (get_or p i 0) in
    let rows : total u ≡ sum_to row n = ap (sum_to row) fit.u_count in
    let columns : total v ≡ sum_to (λ i. column (get_or p i 0)) n =
    ap (sum_to column) (fit.v_count ∙ sym is.same_size)
    ∙ sym (sum_to-in_order column p is.bijection)
    ∙ ap (sum_to (λ i. column (get_or p i 0))) is.same_size in
    let sums : sum_to both n ≡ sum_to row n +ℤ sum_to (λ i. column (get_or p i 0)) n = sum_to-add row (λ i. column (get_or p i 0)) n in
    let below : sum_to both n ≤ℤ assignment_cost M p =
    sum_to-monotone both (assigned M p) n (λ i h. fit.below i (get_or p i 0) h (omega (arith, is.same_size, is.bijection.within i))) in
    omega (arith, ints, rows, columns, sums, below)
