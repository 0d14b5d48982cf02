-- An instance and a node that charge facilities for their locations and keep them off forbidden ones.
use Rattle.std.specs.Prelude.{ℕ, ◌≡◌, ◌≤ℤ◌, List, ℤ}
use Rattle.qap_cost.specs.Instance.{Problem}
use Rattle.qap_cost.specs.Placement.{Completes, IsPlacement, Placement}
use Rattle.plan_charge.specs.Charges.{cost_with}
use Rattle.plan_charge.specs.Extended.{IsExtended, IsExtendedNode}
use Rattle.plan_charge.specs.Forbidden.{UsesNone}
use Rattle.plan_charge.specs.Forbidding.{Forbids}
use Rattle.plan_charge.specs.declared.charges.Charges.{Charges}
use Rattle.plan_charge.specs.declared.forbidden.Forbidden.{Forbidden}

-- completes the node, and uses no forbidden location
pub record IsAllowed (x : Placement) (f : Forbidden) (p : List ℕ) : Type 0 where
  pub completes : Completes x p
  pub none : UsesNone x.size f p

-- the instance and the node with extra facilities, of charges that keep facilities off forbidden locations
pub record Restricts (I : Problem) (x : Placement) (old : Charges) (f : Forbidden) (J : Problem) (y : Placement) : Type 0 where
  pub charges : Charges
  pub forbids : Forbids I old f charges
  pub extended : IsExtended I charges J
  pub node : IsExtendedNode charges.count x y
  pub placement : IsPlacement x
  pub size : x.size ≡ I.size

-- an allowed permutation with its cost, what facilities pay included, no higher than the start's; and a bound, at most
-- that cost, on the cost of every allowed permutation
pub record IsCharged (I : Problem) (x : Placement) (c : Charges) (f : Forbidden) (start p : List ℕ) (cost g : ℤ) : Type 0 where
  pub allowed : IsAllowed x f p
  pub costs : cost_with I c p ≡ cost
  pub no_dearer : cost ≤ℤ cost_with I c start
  pub none_less : (q : List ℕ) → IsAllowed x f q → g ≤ℤ cost_with I c q
  pub at_most : g ≤ℤ cost
