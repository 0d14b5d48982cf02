-- The names of a table.
use Rattle.std.specs.Prelude.{◌≡◌, ◌≢◌, ℕ, ◌<◌, ◌≤◌, List, [], length, slice_index_or}
use Rattle.plan_table.specs.Control.{HasNoControl}

-- the greatest number of names of a table
abbrev pub max_names : ℕ
max_names = 256

-- one of the names is this one
abbrev pub HasName : List (List ℕ) → List ℕ → Type 0
HasName names name = (k : ℕ) × (k < length names) × (slice_index_or names k [] ≡ name)

-- a name that is not empty, has no control character, and differs from the others
pub record IsNew (others : List (List ℕ)) (name : List ℕ) : Type 0 where
  pub some : name ≢ []
  pub visible : HasNoControl name
  pub other : HasName others name → ⊥

-- no name is empty, has a control character, or is repeated
pub record AreDifferent (names : List (List ℕ)) : Type 0 where
  pub some : (k : ℕ) → k < length names → slice_index_or names k [] ≢ []
  pub visible : (k : ℕ) → k < length names → HasNoControl (slice_index_or names k [])
  pub once : (j k : ℕ) → j < k → k < length names → slice_index_or names j [] ≢ slice_index_or names k []

-- 1 to 256 names, none empty, none with a control character and none repeated
pub record AreNames (names : List (List ℕ)) : Type 0 where
  pub positive : 0 < length names
  pub few : length names ≤ max_names
  pub different : AreDifferent names
