-- The instance of a plan with costs of places or forbidden places.
use Rattle.std.specs.Prelude.{ℕ, List, [], ◌∷◌}
use Rattle.qap_cost.specs.Instance.{Problem}
use Rattle.qap_text.specs.InstanceText.{IsInstanceText}
use Rattle.plan_charge.specs.Extended.{IsExtended}
use Rattle.plan_charge.specs.Forbidding.{Forbids}
use Rattle.plan_charge.specs.declared.charges.Charges.{Charges}
use Rattle.plan_charge.specs.declared.forbidden.Forbidden.{Forbidden}

-- the text of the instance with the extra facilities of charges that keep facilities off forbidden locations
pub record IsLargerText (I : Problem) (old : Charges) (f : Forbidden) (text : List ℕ) : Type 0 where
  pub charges : Charges
  pub problem : Problem
  pub forbids : Forbids I old f charges
  pub extended : IsExtended I charges problem
  pub is : IsInstanceText text problem (10 ∷ [])
