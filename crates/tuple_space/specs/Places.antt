-- Places, each of which may hold an item.
use Rattle.std.specs.Prelude.{◌≡◌, ℕ, ◌≤◌, Bool, false, List, [], ◌∷◌, Option, Some, None, map}
use Rattle.smallvec.specs.SmallVec.{SmallVec}

-- the items in a row of places
abbrev pub items_in : {A : Type 0} → List (Option A) → List A
items_in [] = []
items_in (Some x ∷ places) = x ∷ items_in places
items_in (None ∷ places) = items_in places

-- a place holds an item that passes a test
abbrev pub holds_one : {A : Type 0} → (A → Bool) → Option A → Bool
holds_one test (Some x) = test x
holds_one test None = false

-- each place in use holds an item, and this many take no memory
pub record AreFilled {A : Type 0} (many : ℕ) (places : SmallVec (Option A)) : Type 0 where
  pub ready : many ≤ places.capacity
  pub each : places.items ≡ map Some (items_in places.items)
