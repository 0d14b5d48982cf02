-- Whether duals fit can be asked of the reduced matrix at hand, since a node has only one.
use Rattle.std.proofs.Common.{◌≡◌, Bool, List, ℤ, subst}
use Rattle.std.specs.Prelude.{IsTrue}
use Rattle.qap_cost.specs.Instance.{Problem}
use Rattle.qap_cost.specs.Matrix.{Square, IsMatrix, DualsFit}
use Rattle.qap_cost.specs.Placement.{Placement}
use Rattle.gilmore_lawler.specs.Closing.{Fits}
use Rattle.gilmore_lawler.specs.Duals.{TellsFit}
use Rattle.gilmore_lawler.specs.ReducedMatrix.{IsReduced}
use Rattle.gilmore_lawler.proofs.OneMatrix.{reduced_unique}

-- duals that fit a node's reduced matrix fit the one at hand
pub Fits-reduced : (I : Problem) (x : Placement) (M : Square) (u v : List ℤ) → IsMatrix M → IsReduced I x M → Fits I x u v → DualsFit M u v
Fits-reduced I x M u v square reduced h =
    subst (λ (N : Square). DualsFit N u v) (reduced_unique I x h.matrix M h.square square h.reduced reduced) h.fits

-- duals that are said to fit
pub Fits-told : (I : Problem) (x : Placement) (u v us vs : List ℤ) (fit : Bool) → us ≡ u → vs ≡ v → TellsFit I x us vs fit → IsTrue fit → Fits I x u v
Fits-told I x u v us vs fit rows columns h fits_it = record {
  matrix = h.matrix;
  square = h.square;
  reduced = h.reduced;
  fits = subst (λ (xs : List ℤ). DualsFit h.matrix xs v) rows (subst (λ (ys : List ℤ). DualsFit h.matrix us ys) columns (h.tells.0 fits_it));
}
