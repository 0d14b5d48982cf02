-- What is searched: the permutations of an instance that complete a node, starting from a known one.
use Rattle.std.specs.Prelude.{◌≡◌, ◌≤ℤ◌, ℕ, ℤ, List}
use Rattle.std.specs.List.{range_with_len}
use Rattle.qap_cost.specs.Instance.{Problem}
use Rattle.qap_cost.specs.Objective.{Permutes, cost_of}
use Rattle.qap_cost.specs.Placement.{Placement, Completes, IsPlacement, root_of}
use Rattle.qap_search.specs.Law.Replacement.{Best}

-- an instance, the node whose completions are searched, and a permutation that is known before
pub record Search : Type 0 where
  pub instance : Problem
  pub root : Placement
  pub known : Best

-- the root is a node of the instance; the known one is a permutation with its cost, and need not complete the root
pub record IsSearch (S : Search) : Type 0 where
  pub root : IsPlacement S.root
  pub same_size : S.root.size ≡ S.instance.size
  pub permutes : Permutes S.instance S.known.permutation
  pub costs : cost_of S.instance S.known.permutation ≡ S.known.cost

-- no permutation that completes the root costs less than c
abbrev pub NoneBelow : Search → ℤ → Type 0
NoneBelow S c = (p : List ℕ) → Completes S.root p → c ≤ℤ cost_of S.instance p

-- the search of I over the root x, with b as the known permutation
abbrev pub search_of : Problem → Placement → Best → Search
search_of I x b = record { instance = I; root = x; known = b }

-- all permutations of the instance
abbrev pub from_root : Problem → Best → Search
from_root I b = search_of I (root_of I.size) b

-- facility i at location i
abbrev pub identity_of : Problem → List ℕ
identity_of I = range_with_len 0 I.size

-- this permutation, with its cost
abbrev pub best_with : Problem → List ℕ → Best
best_with I p = record { cost = cost_of I p; permutation = p }

-- all permutations of the instance, from the identity
abbrev pub whole : Problem → Search
whole I = from_root I (best_with I (identity_of I))
