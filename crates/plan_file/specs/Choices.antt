-- Departments with some of the places: those that they may not take, or the only ones that they may.
use Rattle.std.specs.Prelude.{◌≡◌, ◌≢◌, ◌⊎◌, ℕ, ◌<◌, List, [], length, map, slice_index_or, string_bytes}
use Rattle.plan_table.specs.Grid.{AreAmong}
use Rattle.plan_table.specs.Names.{HasName}
use Rattle.plan_file.specs.declared.source.Charging.{Charging}
use Rattle.plan_file.specs.declared.source.Choice.{Choice}

-- the departments
abbrev pub choosers : List Choice → List (List ℕ)
choosers choices = map (λ c. string_bytes c.department) choices

-- the department at a position
abbrev pub chooser_at : List Choice → ℕ → List ℕ
chooser_at choices j = slice_index_or (choosers choices) j []

-- its places
abbrev pub chosen_at : List Choice → ℕ → List (List ℕ)
chosen_at choices j = slice_index_or (map (λ c. map string_bytes c.places.items) choices) j []

-- each department has a place
abbrev pub HavePlaces : List Choice → Type 0
HavePlaces choices = (j : ℕ) → j < length choices → chosen_at choices j ≢ []

-- no department is in both
abbrev pub AreApart : List Choice → List Choice → Type 0
AreApart forbidden allowed = (j : ℕ) → j < length allowed → HasName (choosers forbidden) (chooser_at allowed j) → ⊥

-- one of these departments is called so, and has this place
pub record HasChosen (choices : List Choice) (department place : List ℕ) : Type 0 where
  pub at : ℕ
  pub there : at < length choices
  pub own : chooser_at choices at ≡ department
  pub chosen : HasName (chosen_at choices at) place

-- one of them is called so, and does not have this place
pub record HasOthers (choices : List Choice) (department place : List ℕ) : Type 0 where
  pub at : ℕ
  pub there : at < length choices
  pub own : chooser_at choices at ≡ department
  pub other : HasName (chosen_at choices at) place → ⊥

-- a department may not take a place: the plan forbids it, or allows only others
abbrev pub IsBarred : Charging → List ℕ → List ℕ → Type 0
IsBarred charging department place = HasChosen charging.forbidden.items department place ⊎ HasOthers charging.allowed.items department place

-- it may not take one of these places
abbrev pub IsRestricted : Charging → List (List ℕ) → List ℕ → Type 0
IsRestricted charging places department = (k : ℕ) × (k < length places) × IsBarred charging department (slice_index_or places k [])

-- each name is that of a department, or of a place
pub record AreKnownChoices (names sites : List (List ℕ)) (choices : List Choice) : Type 0 where
  pub departments : AreAmong (choosers choices) names
  pub places : (j : ℕ) → j < length choices → AreAmong (chosen_at choices j) sites
