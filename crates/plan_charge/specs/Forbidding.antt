-- Charges that keep facilities off forbidden locations.
use Rattle.std.specs.Prelude.{ℕ, ◌≡◌, ◌-◌, ◌*◌, ◌<◌, ◌≤◌, ◌⊎◌, true, nat_lt, ◌==◌, if◌then◌else◌, List, ℤ, pos, ◌+ℤ◌, ◌-ℤ◌, ◌*ℤ◌, ◌≤ℤ◌, ◌<ℤ◌}
use Rattle.qap_cost.specs.Instance.{InRange, Problem}
use Rattle.qap_cost.specs.Limits.{max_entry}
use Rattle.qap_cost.specs.Objective.{Permutes}
use Rattle.plan_charge.specs.Charges.{AreCharges, charge_at, cost_with}
use Rattle.plan_charge.specs.Forbidden.{UsesNone, UsesSome, is_forbidden}
use Rattle.plan_charge.specs.Spread.{spread}
use Rattle.plan_charge.specs.declared.charges.Charges.{Charges}
use Rattle.plan_charge.specs.declared.forbidden.Forbidden.{Forbidden}
use Rattle.plan_charge.specs.declared.penalty.Penalty.{Penalty}

-- under the new charges a permutation that uses no forbidden location costs what it did, and less than each that uses one
pub record Forbids (I : Problem) (old : Charges) (f : Forbidden) (c : Charges) : Type 0 where
  pub charges : AreCharges I.size c
  pub same : (p : List ℕ) → Permutes I p → UsesNone I.size f p → cost_with I c p ≡ cost_with I old p
  pub less : (p q : List ℕ) → Permutes I p → Permutes I q → UsesNone I.size f p → UsesSome I.size f q → cost_with I c p <ℤ cost_with I c q

-- entry k of row i, or 0 if facility i does not pay
abbrev pub base_at : ℕ → Charges → ℕ → ℕ → ℤ
base_at n c i k = if nat_lt i c.count then charge_at n c i k else pos 0

-- the same, raised by a step where location k is forbidden
abbrev pub raised_at : ℕ → Charges → Forbidden → ℤ → ℕ → ℕ → ℤ
raised_at n c f step i k = base_at n c i k +ℤ (if is_forbidden n f i k then step else pos 0)

-- each facility that pays or has forbidden locations pays this weight times its raised entries
pub record IsRaised (n : ℕ) (old : Charges) (f : Forbidden) (x : Penalty) (c : Charges) : Type 0 where
  pub charges : AreCharges n c
  pub payers : old.count ≤ c.count
  pub rows : f.count ≤ c.count
  pub weight : c.weight ≡ x.weight
  pub entry : (i k : ℕ) → i < c.count → k < n → charge_at n c i k ≡ raised_at n old f x.step i k

-- the weight of the charges, or the greatest one if no facility pays
abbrev pub most_weight : Charges → ℤ
most_weight c = if c.count == 0 then pos max_entry else c.weight

-- the least step that costs more than the spread at this weight
pub record IsStep (weight spread step : ℕ) : Type 0 where
  pub some : 0 < step
  pub small : step ≤ max_entry
  pub above : spread < weight * step
  pub tight : weight * (step - 1) ≤ spread

-- the least step that costs more than the spread, at the weight of the charges if a facility pays
pub record IsPenalty (old : Charges) (f : Forbidden) (spread : ℤ) (x : Penalty) : Type 0 where
  pub weight : InRange x.weight
  pub kept : 0 < old.count → x.weight ≡ old.weight
  pub small : x.step ≤ℤ pos max_entry
  pub least : pos 0 ≤ℤ x.step
  pub above : 0 < f.count → spread <ℤ (x.weight *ℤ x.step)
  pub tight : 0 < f.count → (x.weight *ℤ (x.step -ℤ pos 1)) ≤ℤ spread

-- the raised entry of a forbidden location is above the greatest entry
pub record IsPassed (n : ℕ) (old : Charges) (f : Forbidden) (step : ℤ) : Type 0 where
  pub facility : ℕ
  pub location : ℕ
  pub has_row : facility < f.count
  pub inside : location < n
  pub taken : is_forbidden n f facility location ≡ true
  pub past : pos max_entry <ℤ (base_at n old facility location +ℤ step)

-- even the greatest entry charges a forbidden location no more above its own charge than the spread
pub record IsFull (I : Problem) (old : Charges) (f : Forbidden) : Type 0 where
  pub facility : ℕ
  pub location : ℕ
  pub has_row : facility < f.count
  pub inside : location < I.size
  pub taken : is_forbidden I.size f facility location ≡ true
  pub full : (old.weight *ℤ (pos max_entry -ℤ base_at I.size old facility location)) ≤ℤ spread I old

-- the greatest weight and entry cost no more than the spread, or those of a forbidden location no more above its own charge
abbrev pub DoesNotFit : Problem → Charges → Forbidden → Type 0
DoesNotFit I old f = ((most_weight old *ℤ pos max_entry) ≤ℤ spread I old) ⊎ IsFull I old f
