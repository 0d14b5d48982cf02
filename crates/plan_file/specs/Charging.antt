-- What places cost departments, and which of them these may take, as a plan says it.
use Rattle.std.specs.Global.{Global}
use Rattle.std.specs.Prelude.{◌≡◌, ℕ, ⊤, List, [], ◌∷◌, map, Option, None, Some, String, codes, string_bytes}
use Rattle.toml.specs.Data.{Data, Members, no_members, member, array, table, get_member}
use Rattle.plan_file.specs.Choices.{AreApart, HavePlaces}
use Rattle.plan_file.specs.Keys.{HasNone, HasText, strings_of}
use Rattle.plan_file.specs.declared.source.Charging.{Charging}
use Rattle.plan_file.specs.declared.source.Choice.{Choice}

-- the file of the costs, if given
abbrev pub SaysCosts : Members → Option (String Global) → Type 0
SaysCosts ms None = HasNone ms (codes "costs")
SaysCosts ms (Some file) = HasText ms (codes "costs") (string_bytes file)

-- a key with a list of texts: a department with places
pub record IsChoice (key : List ℕ) (d : Data) (choice : Choice) : Type 0 where
  pub department : string_bytes choice.department ≡ key
  pub places : d ≡ array (strings_of (map string_bytes choice.places.items))

-- each key with its list, in sequence
abbrev pub AreChoices : Members → List Choice → Type 0
AreChoices no_members [] = ⊤
AreChoices no_members (c ∷ cs) = ⊥
AreChoices (member k d ms) [] = ⊥
AreChoices (member k d ms) (c ∷ cs) = IsChoice k d c × AreChoices ms cs

-- a table of departments with places, or none
abbrev pub SaysChoices : Option Data → List Choice → Type 0
SaysChoices None choices = choices ≡ []
SaysChoices (Some d) choices = (ms : Members) × (d ≡ table ms) × AreChoices ms choices

-- the file of the costs, the places that departments may not take, and the only ones that others may: none of these has none, and no
-- department is under both keys
pub record SaysCharging (ms : Members) (charging : Charging) : Type 0 where
  pub costs : SaysCosts ms charging.costs
  pub forbidden : SaysChoices (get_member (codes "forbidden") ms) charging.forbidden.items
  pub allowed : SaysChoices (get_member (codes "allowed") ms) charging.allowed.items
  pub some : HavePlaces charging.allowed.items
  pub apart : AreApart charging.forbidden.items charging.allowed.items
