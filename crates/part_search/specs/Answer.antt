-- The result of a search on a part, finished or stopped.
use Rattle.std.specs.Prelude.{◌≡◌, ◌<◌, ◌≤ℤ◌, ℕ, ℤ, List, Contains, IfSome, length, slice_index_or, Option, Some, None}
use Rattle.qap_cost.specs.Instance.{Problem}
use Rattle.subtree_search.specs.Best.{IsIncumbent}
use Rattle.subtree_search.specs.Closed.{IsClosed}
use Rattle.tuple_match.specs.FieldValue.{FieldValue}
use Rattle.part_search.specs.Law.{Part}
use Rattle.part_search.specs.Tuples.{OpenNode, best_tuple, node_tuple}
use Rattle.part_search.specs.declared.answer.Survey.{Survey}
use Rattle.part_search.specs.declared.answer.Answer.{Answer}

-- a permutation of the instance with its cost, no worse than the one known before; no completion of the root costs less than the
-- bound, which is at most the cost, and equals it if no node is open
pub record IsAnswer (S : Part) (a : Answer) : Type 0 where
  pub incumbent : IsIncumbent S.instance a.best
  pub no_worse : a.best.cost ≤ℤ S.start.cost
  pub bounded : IsClosed S.instance S.root a.bound
  pub below : a.bound ≤ℤ a.best.cost
  pub optimal : a.open_nodes ≡ 0 → a.bound ≡ a.best.cost

-- there is a minimum value, and it is at most this
abbrev pub IsAtMost : Option ℤ → ℤ → Type 0
IsAtMost None value = ⊥
IsAtMost (Some least) value = least ≤ℤ value

-- the minimum after one more value: at most that value, and no greater than before
pub record IsLesser (old : Option ℤ) (value : ℤ) (new : Option ℤ) : Type 0 where
  pub at_most : IsAtMost new value
  pub no_more : (v : ℤ) → IsAtMost old v → IsAtMost new v

-- what the first n tuples imply: the minimum value is at most that of each open node, and there is none if no node is open; the
-- incumbent is that of one of the tuples
pub record SurveysFirst (I : Problem) (tuples : List (List FieldValue)) (n : ℕ) (s : Survey) : Type 0 where
  pub values : (k : ℕ) (d : List FieldValue) → k < n → (o : OpenNode) → slice_index_or tuples k d ≡ node_tuple o → IsAtMost s.least o.value
  pub none : s.open_nodes ≡ 0 → s.least ≡ None
  pub best : IfSome s.best (λ b. Contains tuples (best_tuple b))
  pub incumbent : IfSome s.best (IsIncumbent I)

-- what all of them imply
abbrev pub Surveys : Problem → List (List FieldValue) → Survey → Type 0
Surveys I tuples s = SurveysFirst I tuples (length tuples) s
