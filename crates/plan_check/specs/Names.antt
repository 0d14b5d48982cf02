-- The names in an answer, if present.
use Rattle.std.specs.Prelude.{◌≡◌, ◌⊎◌, ℕ, List, [], None, codes, length, map, slice_index_or, string_bytes, take}
use Rattle.serde_json.specs.Data.{Data}
use Rattle.serde_json.specs.Find.{get}
use Rattle.plan_file.specs.declared.tables.NamedProblem.{NamedProblem}
use Rattle.plan_check.specs.Stated.{ListsTexts}

-- the names of a problem's departments, in order
abbrev pub department_names : NamedProblem → List (List ℕ)
department_names P = map string_bytes P.departments.items

-- the names of its places, in order
abbrev pub place_names : NamedProblem → List (List ℕ)
place_names P = map string_bytes P.places.items

-- the names at these numbers
abbrev pub names_at : List (List ℕ) → List ℕ → List (List ℕ)
names_at names numbers = map (λ k. slice_index_or names k []) numbers

-- the name of the place of each department
abbrev pub arrangement_of : NamedProblem → List ℕ → List (List ℕ)
arrangement_of P p = names_at (place_names P) (take (length P.departments.items) p)

-- a key is missing, or has a list of these names
abbrev pub MayList : Data → List ℕ → List (List ℕ) → Type 0
MayList d key names = (get key d ≡ None) ⊎ ListsTexts d key names

-- the names that are present are the plan's
pub record HasNamesOf (P : NamedProblem) (p : List ℕ) (d : Data) : Type 0 where
  pub departments : MayList d (codes "departments") (department_names P)
  pub places : MayList d (codes "places") (place_names P)
  pub arrangement : MayList d (codes "arrangement") (arrangement_of P p)

-- there are no names: all three keys are missing
pub record HasNoNames (d : Data) : Type 0 where
  pub departments : get (codes "departments") d ≡ None
  pub places : get (codes "places") d ≡ None
  pub arrangement : get (codes "arrangement") d ≡ None
