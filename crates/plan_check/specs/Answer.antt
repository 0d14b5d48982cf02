-- An answer that was written as JSON.
use Rattle.std.specs.Prelude.{◌≡◌, ◌≤◌, ℕ, ◌+◌, List, map, codes, Some, ℤ, ◌≤ℤ◌, unsigned_abs}
use Rattle.std.specs.Str.{IsUtf8}
use Rattle.serde_json.specs.Data.{Data}
use Rattle.serde_json.specs.Read.{read}
use Rattle.qap_cost.specs.Instance.{Problem}
use Rattle.qap_cost.specs.Objective.{Permutes, cost_of}
use Rattle.qap_cost.specs.Placement.{Completes, Placement, root_of}
use Rattle.plan_table.specs.Decimal.{max_number}
use Rattle.plan_file.specs.declared.tables.NamedProblem.{NamedProblem}
use Rattle.plan_answer.specs.Answer.{cost_scale}
use Rattle.plan_check.specs.Names.{HasNamesOf, HasNoNames, department_names, place_names}
use Rattle.plan_check.specs.Stated.{ListsNumbers, ListsTexts, StatesNumber, StatesText, StatesWhole, status_of}

-- the text is the JSON of a value
pub record IsJsonOf (text : List ℕ) (d : Data) : Type 0 where
  pub utf8 : IsUtf8 text
  pub read : read text ≡ Some d

-- it lists the locations of a permutation, counted from 1
abbrev pub ListsLocations : Data → List ℕ → Type 0
ListsLocations d p = ListsNumbers d (codes "permutation") (map (λ k. k + 1) p)

-- it lists a permutation that respects what is fixed
pub record IsListed (I : Problem) (x : Placement) (d : Data) (p : List ℕ) : Type 0 where
  pub locations : ListsLocations d p
  pub permutes : Permutes I p
  pub completes : Completes x p

-- it states a number, at least -10^36, that is no larger than this cost, and how the search ended
pub record IsBoundStated (scale : ℕ) (d : Data) (c g : ℤ) : Type 0 where
  pub number : StatesNumber d (codes "bound") g scale
  pub small : unsigned_abs g ≤ max_number
  pub at_most : g ≤ℤ c
  pub status : StatesText d (codes "status") (status_of g c)

-- it lists such a permutation, and states its cost and such a bound
pub record IsStated (I : Problem) (x : Placement) (scale : ℕ) (d : Data) (p : List ℕ) (c g : ℤ) : Type 0 where
  pub listed : IsListed I x d p
  pub costs : cost_of I p ≡ c
  pub cost : StatesNumber d (codes "cost") c scale
  pub bound : IsBoundStated scale d c g

-- the text is the JSON of an answer to a plan; names, if present, are the plan's
pub record IsAnswerToPlan (P : NamedProblem) (text p : List ℕ) (c g : ℤ) : Type 0 where
  pub value : Data
  pub json : IsJsonOf text value
  pub stated : IsStated P.instance P.fixed (cost_scale P) value p c g
  pub named : HasNamesOf P p value

-- likewise for an instance, which has no names
pub record IsAnswerToInstance (I : Problem) (text p : List ℕ) (c g : ℤ) : Type 0 where
  pub value : Data
  pub json : IsJsonOf text value
  pub stated : IsStated I (root_of I.size) 0 value p c g
  pub unnamed : HasNoNames value

-- a value lists the locations of a permutation, and states a cost and a bound that is no larger
pub record StatesAnswer (scale : ℕ) (d : Data) (p : List ℕ) (c g : ℤ) : Type 0 where
  pub locations : ListsLocations d p
  pub cost : StatesNumber d (codes "cost") c scale
  pub bound : IsBoundStated scale d c g

-- the text is the JSON of such a value, in a plan's units; names, if present, are the plan's
pub record StatesPlanned (P : NamedProblem) (text p : List ℕ) (c g : ℤ) : Type 0 where
  pub value : Data
  pub json : IsJsonOf text value
  pub states : StatesAnswer (cost_scale P) value p c g
  pub named : HasNamesOf P p value

-- likewise without names
pub record StatesFound (text p : List ℕ) (c g : ℤ) : Type 0 where
  pub value : Data
  pub json : IsJsonOf text value
  pub states : StatesAnswer 0 value p c g
  pub unnamed : HasNoNames value

-- the text is the JSON of the names of a plan's departments and places, in order, and of its scales
pub record StatesNames (P : NamedProblem) (text : List ℕ) : Type 0 where
  pub value : Data
  pub json : IsJsonOf text value
  pub departments : ListsTexts value (codes "departments") (department_names P)
  pub places : ListsTexts value (codes "places") (place_names P)
  pub flow_scale : StatesWhole value (codes "flow_scale") P.flow_scale
  pub distance_scale : StatesWhole value (codes "distance_scale") P.distance_scale
