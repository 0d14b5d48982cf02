-- The tuples of a search on parts at any moment.
use Rattle.std.specs.Prelude.{◌≡◌, ◌≤ℤ◌, ℕ, List, ◌∷◌, All, map}
use Rattle.qap_cost.specs.Instance.{Problem}
use Rattle.qap_cost.specs.Objective.{cost_of}
use Rattle.qap_cost.specs.Placement.{Placement, IsPlacement}
use Rattle.shared_space.specs.Law.{Content}
use Rattle.space_txn.specs.Content.{SameItems}
use Rattle.subtree_search.specs.Best.{Best, IsIncumbent}
use Rattle.part_search.specs.Covers.{HasValue, IsCovered}
use Rattle.part_search.specs.Replacement.{MayReplace}
use Rattle.part_search.specs.Tuples.{OpenNode, best_tuple, node_tuple}

-- what is searched: the completions of a node of an instance, starting from a known permutation that need not be one of them
pub record Part : Type 0 where
  pub instance : Problem
  pub root : Placement
  pub start : Best

-- this permutation, with its cost
abbrev pub best_with : Problem → List ℕ → Best
best_with I p = record { permutation = p; cost = cost_of I p }

-- a node of the instance, and a permutation of it with its cost
pub record IsPart (S : Part) : Type 0 where
  pub root : IsPlacement S.root
  pub same_size : S.root.size ≡ S.instance.size
  pub start : IsIncumbent S.instance S.start

-- The tuples, in any order, are those of open nodes and of the incumbent, which is no worse than the permutation known before: no
-- completion of an open node costs less than the smaller of its value and the incumbent's cost, and the open nodes cover the root
-- at the incumbent's cost.
pub record IsSearched (S : Part) (content : Content) : Type 0 where
  pub best : Best
  pub opens : List OpenNode
  pub tuples : SameItems content (best_tuple best ∷ map node_tuple opens)
  pub incumbent : IsIncumbent S.instance best
  pub no_worse : best.cost ≤ℤ S.start.cost
  pub values : All (HasValue S.instance best.cost) opens
  pub covers : IsCovered S.instance S.root best.cost opens

-- the law of a space that holds the search: exactly such tuples are lawful, and a commit is allowed if it replaces an open node
pub record IsLawOf (S : Part) (lawful : Content → ℕ → Type 0) (allowed : Content → Content → Content → Type 0) : Type 0 where
  pub is_searched : (xs : Content) (commits : ℕ) → lawful xs commits → IsSearched S xs
  pub is_lawful : (xs : Content) (commits : ℕ) → IsSearched S xs → lawful xs commits
  pub may_replace : (gone kept added : Content) → MayReplace S.instance gone kept added → allowed gone kept added
