-- The result of a search for a proof.
use Rattle.std.specs.Prelude.{◌≡◌, ◌↔◌, List, ℕ, ℤ, ◌≤ℤ◌}
use Rattle.qap_cost.specs.Instance.{Problem}
use Rattle.qap_cost.specs.Objective.{cost_of}
use Rattle.qap_cost.specs.Placement.{Placement}
use Rattle.qap_proof.specs.Claim.{Claim, IsProof, Proves}
use Rattle.subtree_search.specs.Best.{Best}
use Rattle.tree_search.specs.declared.proving.Found.{Found}

-- a valid proof over the root, whose permutation costs no more than the start
pub record IsFoundFor (I : Problem) (x : Placement) (start : List ℕ) (C : Claim) : Type 0 where
  pub shape : IsProof C
  pub proves : Proves I C
  pub root : C.root ≡ x
  pub no_dearer : C.cost ≤ℤ cost_of I start

-- a valid proof over the root, with the incumbent
pub record IsFoundWith (I : Problem) (x : Placement) (b : Best) (C : Claim) : Type 0 where
  pub shape : IsProof C
  pub proves : Proves I C
  pub root : C.root ≡ x
  pub cost : C.cost ≡ b.cost

-- likewise, with this bound
pub record IsCheckedWith (I : Problem) (x : Placement) (b : Best) (g : ℤ) (C : Claim) : Type 0 where
  pub found : IsFoundWith I x b C
  pub bound : C.bound ≡ g

-- no leaf is open if and only if the bound is the cost
abbrev pub CountsOpen : Found → Type 0
CountsOpen f = (f.open_nodes ≡ 0) ↔ (f.proof.bound ≡ f.proof.cost)
