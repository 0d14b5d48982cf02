-- What departments pay for places, and which they may not take, as a plan and the text of its costs say it.
use Rattle.std.specs.Prelude.{◌≡◌, ◌↔◌, ◌⊎◌, ℕ, ◌+◌, ◌-◌, ◌*◌, ◌^◌, ◌<◌, ◌≤◌, List, [], length, map, Bool, IsTrue, Option, None, Some, ℤ, pos, slice_index_or, string_bytes}
use Rattle.std.specs.Borrow.{Bor}
use Rattle.qap_cost.specs.Range.{InRange}
use Rattle.plan_charge.specs.Charges.{charge_at}
use Rattle.plan_charge.specs.Forbidden.{is_forbidden}
use Rattle.plan_charge.specs.declared.charges.Charges.{Charges}
use Rattle.plan_charge.specs.declared.forbidden.Forbidden.{Forbidden}
use Rattle.plan_table.specs.Grid.{AreAmong, IsGridText}
use Rattle.plan_table.specs.Names.{HasName}
use Rattle.plan_table.specs.Trips.{name_at}
use Rattle.plan_table.specs.declared.rules.Rules.{Rules}
use Rattle.plan_file.specs.Choices.{AreKnownChoices, IsBarred, IsRestricted}
use Rattle.plan_file.specs.Last.{IsUpToLast}
use Rattle.plan_file.specs.declared.source.Charging.{Charging}
use Rattle.plan_file.specs.declared.tables.NamedProblem.{NamedProblem}

-- the entry of a table in the row and the column of these names
pub record IsEntryOf (rows columns : List (List ℕ)) (entries : List ℤ) (department place : List ℕ) (z : ℤ) : Type 0 where
  pub row : ℕ
  pub column : ℕ
  pub row_there : row < length rows
  pub column_there : column < length columns
  pub row_named : name_at rows row ≡ department
  pub column_named : name_at columns column ≡ place
  pub is : z ≡ slice_index_or entries (row * length columns + column) (pos 0)

-- the same, or 0 for a department that has no row
abbrev pub IsCostOf : List (List ℕ) → List (List ℕ) → List ℤ → List ℕ → List ℕ → ℤ → Type 0
IsCostOf rows columns entries department place z =
    ((HasName rows department → ⊥) × (z ≡ pos 0)) ⊎ IsEntryOf rows columns entries department place z

-- a number from -10^9 to 10^9 is that of a department and a place, each given by its number
pub record IsCostCell (rows columns : List (List ℕ)) (entries : List ℤ) (departments places : List (List ℕ)) (i k : ℕ) (z : ℤ) : Type 0 where
  pub cost : IsCostOf rows columns entries (name_at departments i) (name_at places k) z
  pub in_range : InRange z

-- a department has a row
abbrev pub HasRow : List (List ℕ) → List (List ℕ) → ℕ → Type 0
HasRow rows departments i = HasName rows (name_at departments i)

-- the departments up to the last that has a row pay for each place what the table has in their row and in the place's column; times the
-- weight this is the cost over the power of ten by which flows times distances are multiplied
pub record AreGridCosts (departments places : List (List ℕ)) (fraction : ℕ) (rows columns : List (List ℕ)) (scale : ℕ) (entries : List ℤ) (c : Charges) : Type 0 where
  pub payers : IsUpToLast (HasRow rows departments) (length departments) c.count
  pub fine : scale ≤ fraction
  pub weight : c.weight ≡ pos (10 ^ (fraction - scale))
  pub each : (i k : ℕ) → i < c.count → k < length places → IsCostOf rows columns entries (name_at departments i) (name_at places k) (charge_at (length places) c i k)

-- the text is a table of costs, whose rows have the names of departments, and whose columns those of all places
pub record AreTextCosts (rules : Rules) (text : List ℕ) (names sites : List (List ℕ)) (fraction : ℕ) (c : Charges) : Type 0 where
  pub rows : List (List ℕ)
  pub columns : List (List ℕ)
  pub scale : ℕ
  pub entries : List ℤ
  pub read : IsGridText rules text rows columns scale entries
  pub departments : AreAmong rows names
  pub known : AreAmong columns sites
  pub places : AreAmong sites columns
  pub costs : AreGridCosts names sites fraction rows columns scale entries c

-- the charges are the costs of a text, if there is one; otherwise no department pays
abbrev pub AreCostsOf : Rules → Option (Bor (List ℕ)) → NamedProblem → Charges → Type 0
AreCostsOf rules None P c = c.count ≡ 0
AreCostsOf rules (Some text) P c =
    AreTextCosts rules text.now (map string_bytes P.departments.items) (map string_bytes P.places.items) (P.flow_scale + P.distance_scale) c

-- a cell is true if and only if the plan forbids the place to the department, or allows only others
abbrev pub IsBarCell : Charging → List (List ℕ) → List (List ℕ) → ℕ → ℕ → Bool → Type 0
IsBarCell charging departments places i k cell = IsTrue cell ↔ IsBarred charging (name_at departments i) (name_at places k)

-- the names that a plan forbids or allows are known; the departments up to the last that may not take each place have a row, with a true
-- cell exactly for the places that they may not take
pub record IsForbiddenBy (charging : Charging) (departments places : List (List ℕ)) (f : Forbidden) : Type 0 where
  pub known_forbidden : AreKnownChoices departments places charging.forbidden.items
  pub known_allowed : AreKnownChoices departments places charging.allowed.items
  pub rows : IsUpToLast (λ i. IsRestricted charging places (name_at departments i)) (length departments) f.count
  pub each : (i k : ℕ) → i < length departments → k < length places → IsBarCell charging departments places i k (is_forbidden (length places) f i k)
