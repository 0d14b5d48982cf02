-- What is worked out about a node, from what each call told.
use Rattle.std.proofs.Common.{ℕ, ◌-◌, ◌≤◌, List, length, ℤ, ◌∙◌, arith}
use Rattle.qap_cost.specs.Instance.{Problem}
use Rattle.qap_cost.specs.Matrix.{Square, DualsFit}
use Rattle.qap_cost.specs.Placement.{Placement, IsPlacement}
use Rattle.qap_cost.specs.Range.{AllLimited, AllWithin}
use Rattle.gilmore_lawler.specs.ReducedMatrix.{IsReduced}
use Rattle.gilmore_lawler.specs.Closing.{AreDuals}
use Rattle.qap_search.proofs.CertificateLemmas.Certificates.{free_facility_count}

-- numbers within a limit are within each greater one
pub within_more : (m n : ℕ) (xs : List ℤ) → m ≤ n → AllWithin m xs → AllWithin n xs
within_more m n xs more h = record { each = λ j less. (let within = h.each j less in omega arith) }

-- duals that fit the reduced matrix and lie in its range have the shape of a node's
pub duals_of : (I : Problem) (x : Placement) (M : Square) (u v : List ℤ) → IsPlacement x → IsReduced I x M → DualsFit M u v → AllLimited u → AllLimited v → AreDuals (x.size - length x.facilities) u v
duals_of I x M u v placed reduced fits u_range v_range =
    let count = reduced.size ∙ free_facility_count x placed in
    record { rows = fits.u_count ∙ count; columns = fits.v_count ∙ count; u_range = u_range; v_range = v_range }
