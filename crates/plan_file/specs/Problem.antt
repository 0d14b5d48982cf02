-- The problem defined by a table of flows between departments and one of distances between places.
use Rattle.std.specs.Prelude.{◌≡◌, ℕ, ◌<◌, ◌≤◌, ◌&&◌, nat_lt, if◌then◌else◌, ⊤, List, ℤ, pos}
use Rattle.qap_cost.specs.Instance.{Problem, IsInstance, entry}
use Rattle.plan_file.specs.declared.error.ProblemError.{ProblemError}
use Rattle.plan_file.specs.declared.error.ProblemError.TheVariants.{TooManyDepartments, OutOfMemory}

-- the flow from the department at i to the one at j; dummies have none
abbrev pub flow_of : ℕ → List ℤ → ℕ → ℕ → ℤ
flow_of departments flows i j = if nat_lt i departments && nat_lt j departments then entry departments flows i j else pos 0

-- a facility for each place: the departments in order, and then dummies without flow for the remaining places
pub record IsProblemOf (departments : ℕ) (flows : List ℤ) (places : ℕ) (distances : List ℤ) (I : Problem) : Type 0 where
  pub room : departments ≤ places
  pub instance : IsInstance I
  pub size : I.size ≡ places
  pub flow : (i j : ℕ) → i < places → j < places → entry places I.a i j ≡ flow_of departments flows i j
  pub distance : I.b ≡ distances

-- why there is none: more departments than places, or out of memory
abbrev pub IsProblemFault : ℕ → ℕ → ProblemError → Type 0
IsProblemFault departments places (TooManyDepartments d p) = (places < departments) × (d ≡ departments) × (p ≡ places)
IsProblemFault departments places OutOfMemory = ⊤
