-- A least assignment of a matrix, with duals that prove it (Kuhn 1955).
use Rattle.std.specs.Prelude.{◌≡◌, ℕ, ◌*◌, List, ℤ, ◌≤ℤ◌, Option}
use Rattle.qap_cost.specs.Matrix.{Square, Assigns, DualsFit, assignment_cost, dual_value}
use Rattle.qap_cost.specs.Range.{AllWithin}
use Rattle.assign_dual.specs.Partial.{IsPartial}
use Rattle.assign_dual.specs.Range.{NoneAbove}
use Rattle.assign_dual.specs.declared.assignment.Assignment.{Assignment}

-- every row is assigned, at least cost, as the duals prove
pub record IsPlacedWhole (M : Square) (matching : List ℕ) (u v : List ℤ) : Type 0 where
  pub row_of : List (Option ℕ)
  pub placed : IsPartial M M.size matching row_of u v

-- each row is assigned a distinct column; every entry is at least the sum of its two duals, the assignment costs the sum of all duals, and no
-- assignment costs less; the duals are not much further from 0 than the entries, and those of the columns are not positive
pub record IsLeast (M : Square) (a : Assignment) : Type 0 where
  pub assigns : Assigns M a.matching.items
  pub fits : DualsFit M a.u.items a.v.items
  pub equal : dual_value a.u.items a.v.items ≡ assignment_cost M a.matching.items
  pub least : (p : List ℕ) → Assigns M p → assignment_cost M a.matching.items ≤ℤ assignment_cost M p
  pub u_range : (m : ℕ) → AllWithin m M.entries → AllWithin m a.u.items
  pub v_range : (m : ℕ) → AllWithin m M.entries → AllWithin (2 * m) a.v.items
  pub v_sign : NoneAbove a.v.items
