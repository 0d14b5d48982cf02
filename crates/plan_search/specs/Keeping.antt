-- The result of a search of the arrangements that respect what is fixed.
use Rattle.std.specs.Prelude.{◌≡◌, ◌↔◌, ◌≤ℤ◌, ⊤, ℕ, ℤ, List, Option, Some, None}
use Rattle.qap_cost.specs.Instance.{Problem}
use Rattle.qap_cost.specs.Objective.{Permutes, cost_of}
use Rattle.qap_cost.specs.Placement.{Completes, Placement}
use Rattle.qap_proof.specs.Claim.{Claim, IsProof, Proves}

-- costs no more than the start, if there is one that respects what is fixed
abbrev pub IsNoDearerKept : Problem → Placement → Option (List ℕ) → ℤ → Type 0
IsNoDearerKept I x None c = ⊤
IsNoDearerKept I x (Some start) c = Completes x start → c ≤ℤ cost_of I start

-- a permutation that respects what is fixed, with its cost, no higher than the start's; and a bound, at most that cost, on the cost of
-- every permutation that respects it
pub record IsKept (I : Problem) (x : Placement) (start : Option (List ℕ)) (p : List ℕ) (c g : ℤ) : Type 0 where
  pub completes : Completes x p
  pub costs : cost_of I p ≡ c
  pub no_dearer : IsNoDearerKept I x start c
  pub none_less : (q : List ℕ) → Completes x q → g ≤ℤ cost_of I q
  pub at_most : g ≤ℤ c

-- what a search over what is fixed has found from an initial permutation, which need not respect what is fixed
pub record IsSearched (I : Problem) (x : Placement) (first p : List ℕ) (c g : ℤ) : Type 0 where
  pub permutes : Permutes I p
  pub costs : cost_of I p ≡ c
  pub no_dearer : c ≤ℤ cost_of I first
  pub none_less : (q : List ℕ) → Completes x q → g ≤ℤ cost_of I q
  pub at_most : g ≤ℤ c

-- a valid proof over a node with the same completions as what is fixed, with this permutation, its cost and this bound
pub record ProvesKept (I : Problem) (x : Placement) (p : List ℕ) (c g : ℤ) (C : Claim) : Type 0 where
  pub shape : IsProof C
  pub proves : Proves I C
  pub root : (q : List ℕ) → Completes x q ↔ Completes C.root q
  pub permutation : C.permutation ≡ p
  pub cost : C.cost ≡ c
  pub bound : C.bound ≡ g
