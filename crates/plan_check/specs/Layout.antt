-- Listed arrangements as permutations.
use Rattle.std.specs.Prelude.{◌≡◌, ℕ, List, length, map, string_bytes}
use Rattle.qap_cost.specs.Placement.{Completes, Placement}
use Rattle.plan_file.specs.Layout.{IsLayout}
use Rattle.plan_file.specs.declared.tables.NamedProblem.{NamedProblem}

-- each department is where the text puts it
pub record IsLayoutOf (P : NamedProblem) (text : List ℕ) (p : List ℕ) : Type 0 where
  pub node : Placement
  pub listed : IsLayout text (map string_bytes P.departments.items) (map string_bytes P.places.items) node
  pub stands : Completes node p
  pub same_size : length p ≡ P.instance.size
