-- What one commit writes for a node: duals that close it at the incumbent's cost, or its split into open nodes.
use Rattle.std.specs.Prelude.{◌≡◌, ◌⊎◌, ℕ, List, ◌∷◌, ℤ, ◌<ℤ◌, ◌≤ℤ◌, Some}
use Rattle.qap_cost.specs.Instance.{Problem}
use Rattle.qap_cost.specs.Placement.{Placement}
use Rattle.qap_cert.specs.Valid.{ClosesPart}
use Rattle.space_txn.specs.Content.{SameItems}
use Rattle.tuple_match.specs.FieldValue.{FieldValue}
use Rattle.qap_search.specs.Tuples.Piece.{best_tuple, pieces}
use Rattle.qap_search.specs.Law.Replacement.{Best, IsOneNode}
use Rattle.qap_search.specs.Law.SearchTree.{SearchTree, closed_node, split_open, IsTree}
use Rattle.qap_search.specs.Node.Thought.{IsThought, ThoughtValue}
use Rattle.qap_search.specs.declared.node.thought.Thought.{Thought}

-- the tuples are those of one decided node at x, closed only if nothing below costs less than c
pub record Decides (I : Problem) (c : ℤ) (x : Placement) (tuples : List (List FieldValue)) : Type 0 where
  pub decided : SearchTree
  pub one : IsOneNode decided
  pub valid : IsTree (ClosesPart I c) x decided
  pub are : tuples ≡ pieces x decided

-- the evaluation is one of x, for some instance
abbrev pub IsOn : Placement → Thought → Type 0
IsOn x t = (I : Problem) × IsThought I x t

-- the decision on an evaluated node if the incumbent costs c: its duals close it if its value is at least
-- that, otherwise it is split on the evaluation's facility, with all children open
abbrev pub IsDecisionOf : ThoughtValue → ℤ → SearchTree → Type 0
IsDecisionOf t c decided =
    ((c ≤ℤ t.value) × (decided ≡ closed_node t.u t.v))
    ⊎ ((t.value <ℤ c) × (f : ℕ) × (t.branch ≡ Some f) × (decided ≡ split_open t.node f))

-- the tuples are those of the decision on the evaluated node
pub record DecidesBy (I : Problem) (c : ℤ) (t : ThoughtValue) (tuples : List (List FieldValue)) : Type 0 where
  pub decides : Decides I c t.node tuples
  pub by : IsDecisionOf t c decides.decided

-- the tuples are those of the decision on the evaluated node, and of a permutation of cost c
pub record DecidesBeside (I : Problem) (c : ℤ) (p : List ℕ) (t : ThoughtValue) (tuples : List (List FieldValue)) : Type 0 where
  pub rest : List (List FieldValue)
  pub decides : DecidesBy I c t rest
  pub with_best : SameItems tuples (best_tuple c p ∷ rest)

-- of a candidate and the incumbent that was taken, the new incumbent: the candidate only if it costs less
abbrev pub IsBetterOf : Best → Best → Best → Type 0
IsBetterOf candidate old new = ((candidate.cost <ℤ old.cost) × (new ≡ candidate)) ⊎ ((old.cost ≤ℤ candidate.cost) × (new ≡ old))

-- the tuples are those of the decision on the evaluated node, and of the new incumbent
pub record DecidesBetter (I : Problem) (t : ThoughtValue) (old : Best) (tuples : List (List FieldValue)) : Type 0 where
  pub new : Best
  pub better : IsBetterOf t.candidate old new
  pub decides : DecidesBeside I new.cost new.permutation t tuples
