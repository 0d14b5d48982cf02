-- How large the value of an evaluation is.
use Rattle.std.proofs.Common.{ℕ, ◌*◌, ◌≤◌, List, get_or, arith}
use Rattle.std.specs.Prelude.{unsigned_abs}
use Rattle.assign_dual.proofs.Ranges.{entry-within}
use Rattle.qap_cost.proofs.Sums.{sum_to-bound}
use Rattle.qap_cost.specs.Matrix.{Square, assigned, assignment_cost}
use Rattle.qap_cost.specs.Range.{AllWithin}
use Rattle.std.proofs.Common.{ℤ}

-- numbers within a limit are within each greater one
pub within_more : (m n : ℕ) (xs : List ℤ) → m ≤ n → AllWithin m xs → AllWithin n xs
within_more m n xs more h = record { each = λ j less. (let within = h.each j less in omega arith) }

-- an assignment costs no more than a limit of the entries for each row
pub assignment-within : (M : Square) (m : ℕ) (p : List ℕ) → AllWithin m M.entries → unsigned_abs (assignment_cost M p) ≤ M.size * m
assignment-within M m p h = sum_to-bound (assigned M p) M.size m (λ i less. entry-within M m h i (get_or p i 0))
