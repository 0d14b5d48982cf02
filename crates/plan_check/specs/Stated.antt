-- What the JSON of an answer states.
use Rattle.std.specs.Prelude.{◌≡◌, ℕ, ℤ, List, map, Some, codes, int_lt, if◌then◌else◌}
use Rattle.serde_json.specs.Data.{Data, array, number, string, unsigned}
use Rattle.serde_json.specs.Find.{get}
use Rattle.serde_json.specs.View.{items_of}
use Rattle.plan_table.specs.Spelling.{Spells}

-- a whole number as a JSON value
abbrev pub whole : ℕ → Data
whole n = number (unsigned n)

-- a key has a list of these values
abbrev pub Lists : Data → List ℕ → List Data → Type 0
Lists d key ds = get key d ≡ Some (array (items_of ds))

-- a key has a list of whole numbers
abbrev pub ListsNumbers : Data → List ℕ → List ℕ → Type 0
ListsNumbers d key ns = Lists d key (map whole ns)

-- a key has a list of texts
abbrev pub ListsTexts : Data → List ℕ → List (List ℕ) → Type 0
ListsTexts d key texts = Lists d key (map string texts)

-- a key has a text
abbrev pub StatesText : Data → List ℕ → List ℕ → Type 0
StatesText d key text = get key d ≡ Some (string text)

-- a key has a whole number
abbrev pub StatesWhole : Data → List ℕ → ℕ → Type 0
StatesWhole d key n = get key d ≡ Some (whole n)

-- a key has a text that spells z / 10^scale
pub record StatesNumber (d : Data) (key : List ℕ) (z : ℤ) (scale : ℕ) : Type 0 where
  pub word : List ℕ
  pub stated : StatesText d key word
  pub spelled : Spells word z scale

-- how a search with this bound and this cost ended: early if the bound is smaller
abbrev pub status_of : ℤ → ℤ → List ℕ
status_of g c = if int_lt g c then codes "bounded" else codes "optimal"
