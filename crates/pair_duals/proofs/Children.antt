-- What the entries of a child are made of.
use Rattle.std.proofs.Common.{◌≡◌, ℕ, ◌+◌, ◌<◌, ◌≤◌, arith, sym, ◌∙◌, ap, subst, List, length, get_or}
use Rattle.std.specs.Prelude.{ℤ, ◌+ℤ◌, remove, unsigned_abs}
use Rattle.std.proofs.lemmas.Int.{ints}
use Rattle.gilmore_lawler.proofs.Skips.{skip-within, length-remove, get_or-remove}
use Rattle.pair_duals.specs.Limits.{Limits, AreEnough}
use Rattle.pair_duals.specs.PairDuals.{Duals}
use Rattle.pair_duals.specs.Range.{IsInReach}
use Rattle.pair_duals.specs.Reduced.{Form, AreWithin, at, count_of, past}
use Rattle.pair_duals.proofs.Forms.{past-skip}
use Rattle.pair_duals.proofs.Products.{roomy}
use Rattle.pair_duals.proofs.Steps.{entry_in_reach}

-- how many columns are left
pub columns_left : (columns left : List ℕ) (g : ℕ) → left ≡ remove columns g → g < length columns → length left + 1 ≡ length columns
columns_left columns left g e hg = ap (λ (l : List ℕ). length l + 1) e ∙ length-remove columns g hg

-- the one of a number
pub column_left : (columns left : List ℕ) (g c : ℕ) → left ≡ remove columns g → g < length columns → get_or left c 0 ≡ get_or columns (past g c) 0
column_left columns left g c e hg = ap (λ (l : List ℕ). get_or l c 0) e ∙ get_or-remove columns g c 0 hg ∙ ap (λ k. get_or columns k 0) (sym (past-skip g c))

-- and it is one of the duals'
pub column_left-within : (D : Duals) (rows columns left : List ℕ) (g c : ℕ) → AreWithin D rows columns → left ≡ remove columns g → g < length columns → c < length left → get_or left c 0 < length D.locations
column_left-within D rows columns left g c within e hg hc =
    let inside : past g c < length columns = omega (arith, past-skip g c, skip-within g c (length left) hc, columns_left columns left g e hg) in
    subst (λ n. n < length D.locations) (sym (column_left columns left g c e hg)) (within.each_column (past g c) inside)

-- an entry and the residual of a pair
pub within_sum : (m : Limits) (R : Form) (row column : ℕ) (x y : ℤ) → AreEnough m → IsInReach m R → row < count_of R → column < count_of R → x ≡ at R row column → unsigned_abs y ≤ m.pair → unsigned_abs (x +ℤ y) ≤ m.sum
within_sum m R row column x y enough reach hr hc is small =
    let e = entry_in_reach m R row column enough reach hr hc in
    omega (arith, ints, e, small, is, (roomy m enough).reach)
