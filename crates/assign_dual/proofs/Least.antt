-- A partial assignment of all rows is a least assignment.
use Rattle.std.proofs.Common.{◌≡◌, ℕ, ◌<◌, List, length, get_or, replicate, arith, ap, subst, ◌∙◌, sym}
use Rattle.std.specs.Prelude.{ℤ, pos, ◌+ℤ◌, ◌≤ℤ◌, Option, Some, None}
use Rattle.std.proofs.lemmas.Int.{ints}
use Rattle.std.proofs.lemmas.List.{length-replicate, get_or-replicate}
use Rattle.qap_cost.specs.Sum.{sum_to}
use Rattle.qap_cost.specs.Bijection.{IsBijection}
use Rattle.qap_cost.specs.Matrix.{Square, Assigns, DualsFit, assigned, assignment_cost, total, dual_value}
use Rattle.qap_cost.proofs.Sums.{sum_to-same, sum_to-add}
use Rattle.qap_cost.proofs.Bijections.{sum_to-in_order}
use Rattle.qap_cost.proofs.Matrices.{dual_value-le}
use Rattle.assign_dual.specs.Partial.{IsPartial, owner_of}
use Rattle.assign_dual.specs.Square.{square_of}
use Rattle.assign_dual.specs.Number.{number_at}

-- before the first row is placed, all duals are 0 and no column has a row
pub IsPartial-none : (M : Square) (matching : List ℕ) (row_of : List (Option ℕ)) (u v : List ℤ) →
    length matching ≡ M.size → row_of ≡ replicate M.size None → u ≡ replicate M.size (pos 0) → v ≡ replicate M.size (pos 0) → IsPartial M 0 matching row_of u v
IsPartial-none M matching row_of u v count none u_zero v_zero =
    let u_at : (i : ℕ) → i < M.size → number_at u i ≡ pos 0 = λ i h. ap (λ xs. number_at xs i) u_zero ∙ get_or-replicate M.size i (pos 0) (pos 0) h in
    let v_at : (k : ℕ) → k < M.size → number_at v k ≡ pos 0 = λ k h. ap (λ xs. number_at xs k) v_zero ∙ get_or-replicate M.size k (pos 0) (pos 0) h in
    let free : (k : ℕ) → k < M.size → owner_of row_of k ≡ None = λ k h. ap (λ os. owner_of os k) none ∙ get_or-replicate M.size k None None h in
    record {
      fits = record {
        u_count = ap length u_zero ∙ length-replicate M.size (pos 0);
        v_count = ap length v_zero ∙ length-replicate M.size (pos 0);
        below = λ i k h hk. absurd (omega arith);
        rest = λ i h hi. u_at i hi;
        falls = λ k hk. let zero = v_at k hk in omega (arith, ints, zero);
        level = λ some. (0, some, v_at 0 some);
      };
      matches = record {
        matching_count = count;
        row_of_count = ap length none ∙ length-replicate M.size None;
        column = λ i h. absurd (omega arith);
        owner = λ i h. absurd (omega arith);
        owned = λ k i hk e. let was = free k hk in absurd (cc);
      };
      tight = λ i h. absurd (omega arith);
      free = λ k hk e. v_at k hk;
    }

-- the numbers in order
pub IsBijection-in_order : (xs : List ℕ) → ((k : ℕ) → k < length xs → get_or xs k 0 ≡ k) → IsBijection xs
IsBijection-in_order xs at = record {
  within = λ k h. let e = at k h in omega (arith, e);
  distinct = λ k l hk hl same. let e = at k hk in let f = at l hl in omega (arith, e, f, same);
}

-- the same matrix, by its size and its entries
pub IsPartial-square : (M : Square) (n : ℕ) (entries : List ℤ) (matching : List ℕ) (row_of : List (Option ℕ)) (u v : List ℤ) →
    IsPartial (square_of n entries) n matching row_of u v → n ≡ M.size → entries ≡ M.entries → IsPartial M M.size matching row_of u v
IsPartial-square M n entries matching row_of u v is size same =
    subst (λ (k : ℕ). IsPartial (square_of k M.entries) k matching row_of u v) size
    (subst (λ (xs : List ℤ). IsPartial (square_of n xs) n matching row_of u v) same is)

-- the same lists, written back
pub IsPartial-same : (M : Square) (rows : ℕ) (matching : List ℕ) (row_of : List (Option ℕ)) (u v : List ℤ) (same_matching : List ℕ) (same_u same_v : List ℤ) →
    IsPartial M rows matching row_of u v → same_matching ≡ matching → same_u ≡ u → same_v ≡ v → IsPartial M rows same_matching row_of same_u same_v
IsPartial-same M rows matching row_of u v same_matching same_u same_v is e f g =
    subst (λ (m : List ℕ). IsPartial M rows m row_of same_u same_v) (sym e)
    (subst (λ (x : List ℤ). IsPartial M rows matching row_of x same_v) (sym f)
    (subst (λ (x : List ℤ). IsPartial M rows matching row_of u x) (sym g) is))

-- a partial assignment of all rows gives each row a column of its own
pub Assigns-partial : (M : Square) (matching : List ℕ) (row_of : List (Option ℕ)) (u v : List ℤ) → IsPartial M M.size matching row_of u v → Assigns M matching
Assigns-partial M matching row_of u v is = record {
  bijection = record {
    within = λ i h. let k = is.matches.column i (omega (arith, is.matches.matching_count)) in omega (arith, k, is.matches.matching_count);
    distinct = λ i j hi hj e.
        let a = is.matches.owner i (omega (arith, is.matches.matching_count)) in
        let b = is.matches.owner j (omega (arith, is.matches.matching_count)) in
        let c = ap (λ k. owner_of row_of k) e in
        let same : Some i ≡ Some j = sym a ∙ c ∙ b in
        cc;
  };
  same_size = is.matches.matching_count;
}

-- the duals of a partial assignment of all rows fit the matrix
pub DualsFit-partial : (M : Square) (matching : List ℕ) (row_of : List (Option ℕ)) (u v : List ℤ) → IsPartial M M.size matching row_of u v → DualsFit M u v
DualsFit-partial M matching row_of u v is = record {
  u_count = is.fits.u_count;
  v_count = is.fits.v_count;
  below = is.fits.below;
}

-- each row costs the sum of its dual and its column's
pub dual_value-is : (M : Square) (matching : List ℕ) (row_of : List (Option ℕ)) (u v : List ℤ) → IsPartial M M.size matching row_of u v → dual_value u v ≡ assignment_cost M matching
dual_value-is M matching row_of u v is =
    let n = M.size in
    let row : ℕ → ℤ = λ i. number_at u i in
    let column : ℕ → ℤ = λ i. number_at v (get_or matching i 0) in
    let assigns = Assigns-partial M matching row_of u v is in
    let rows : total u ≡ sum_to row n = ap (sum_to row) is.fits.u_count in
    let columns : total v ≡ sum_to column n =
    ap (sum_to (λ k. number_at v k)) (is.fits.v_count ∙ sym assigns.same_size)
    ∙ sym (sum_to-in_order (λ k. number_at v k) matching assigns.bijection)
    ∙ ap (sum_to column) assigns.same_size in
    let sums : sum_to (λ i. row i +ℤ column i) n ≡ sum_to row n +ℤ sum_to column n = sum_to-add row column n in
    let same : sum_to (λ i. row i +ℤ column i) n ≡ assignment_cost M matching =
    sum_to-same (λ i. row i +ℤ column i) (assigned M matching) n (λ i h. is.tight i h) in
    omega (arith, ints, rows, columns, sums, same)

-- no assignment costs less than a partial assignment of all rows
pub least-partial : (M : Square) (matching : List ℕ) (row_of : List (Option ℕ)) (u v : List ℤ) → IsPartial M M.size matching row_of u v →
    (p : List ℕ) → Assigns M p → assignment_cost M matching ≤ℤ assignment_cost M p
least-partial M matching row_of u v is p other =
    let below = dual_value-le M u v p (DualsFit-partial M matching row_of u v is) other in
    let equal = dual_value-is M matching row_of u v is in
    omega (arith, ints, below, equal)
