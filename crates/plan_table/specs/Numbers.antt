-- A map from names to their numbers.
use Rattle.std.specs.Prelude.{String, ℕ, ◌≡◌, ◌<◌, List, length, MatchOption}
use Rattle.std.specs.declared.hash.FoldHasher.{FoldHasher}
use Rattle.std.specs.declared.hash.BuildHasherDefault.{BuildHasherDefault}
use Rattle.std.specs.HashMap.{HashMap, get_by_text}
use Rattle.plan_table.specs.Names.{HasName}
use Rattle.plan_table.specs.Trips.{name_at}

-- the map has the number of each of the names, and nothing for any other word
abbrev pub AreNumbers : {A : Type 0} → HashMap (String A) ℕ (BuildHasherDefault FoldHasher) → List (List ℕ) → Type 0
AreNumbers numbers names = (word : List ℕ) → MatchOption (get_by_text numbers word) (HasName names word → ⊥) (λ i. (i < length names) × (name_at names i ≡ word))
