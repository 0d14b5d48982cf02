-- A matrix whose rows are all placed has a least assignment.
use Rattle.std.proofs.Common.{◌≡◌, ℕ, List, arith}
use Rattle.std.specs.Prelude.{ℤ}
use Rattle.qap_cost.specs.Matrix.{Square}
use Rattle.assign_dual.specs.Least.{IsLeast, IsPlacedWhole}
use Rattle.assign_dual.specs.declared.assignment.Assignment.{Assignment}
use Rattle.assign_dual.proofs.Least.{IsPartial-same, Assigns-partial, DualsFit-partial, dual_value-is, least-partial}
use Rattle.assign_dual.proofs.Ranges.{u_within, v_within, v_NoneAbove}

-- an assignment in whose lists all rows are placed at the least cost is a least assignment
pub IsLeast-placed : (M : Square) (a : Assignment) (matching : List ℕ) (u v : List ℤ) → IsPlacedWhole M matching u v →
    a.matching.items ≡ matching → a.u.items ≡ u → a.v.items ≡ v → IsLeast M a
IsLeast-placed M a matching u v whole e f g =
    let same = IsPartial-same M M.size _ _ _ _ _ _ _ whole.placed e f g in
    record {
      assigns = Assigns-partial _ _ _ _ _ same;
      fits = DualsFit-partial _ _ _ _ _ same;
      equal = dual_value-is _ _ _ _ _ same;
      least = least-partial _ _ _ _ _ same;
      u_range = λ m. u_within _ _ _ _ _ _ m same;
      v_range = λ m. v_within _ _ _ _ _ _ m (omega arith) same;
      v_sign = v_NoneAbove _ _ _ _ _ _ same;
    }
