-- The result of a search of an instance.
use Rattle.std.specs.Prelude.{◌≡◌, ◌≤ℤ◌, ℕ, ℤ, List, Option, Some, None}
use Rattle.qap_cost.specs.Instance.{Problem}
use Rattle.qap_cost.specs.Objective.{NoneCostsLess, Permutes, cost_of}
use Rattle.qap_cost.specs.Placement.{Placement}
use Rattle.qap_proof.specs.Claim.{Claim, IsProof, Proves}

-- costs no more than the start, if there is one
abbrev pub IsNoDearer : Problem → Option (List ℕ) → ℤ → Type 0
IsNoDearer I None c = Unit {0}
IsNoDearer I (Some start) c = c ≤ℤ cost_of I start

-- a permutation of the instance with its cost, no higher than the start's, and a bound, at most that cost, on the cost of every permutation
pub record IsPlanned (I : Problem) (start : Option (List ℕ)) (p : List ℕ) (c g : ℤ) : Type 0 where
  pub permutes : Permutes I p
  pub costs : cost_of I p ≡ c
  pub no_dearer : IsNoDearer I start c
  pub none_less : NoneCostsLess I g
  pub at_most : g ≤ℤ c

-- a valid proof over this root, with this permutation, its cost and this bound
pub record ProvesOver (I : Problem) (root : Placement) (p : List ℕ) (c g : ℤ) (C : Claim) : Type 0 where
  pub shape : IsProof C
  pub proves : Proves I C
  pub over : C.root ≡ root
  pub permutation : C.permutation ≡ p
  pub cost : C.cost ≡ c
  pub bound : C.bound ≡ g
