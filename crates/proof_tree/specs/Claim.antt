-- Proofs with pair duals: what is claimed about an instance, and what establishes it.
use Rattle.std.specs.Prelude.{◌≡◌, ℕ, ◌++◌, ◌∷◌, [], None, List, length, ℤ, pos, codes, false}
use Rattle.qap_cost.specs.Bijection.{IsPerm}
use Rattle.qap_cost.specs.Instance.{Problem}
use Rattle.qap_cost.specs.Objective.{cost_of}
use Rattle.qap_cost.specs.Placement.{Placement}
use Rattle.qap_cost.specs.Range.{IsLimited}
use Rattle.qap_io.specs.Number.{from_one}
use Rattle.qap_lines.specs.Bound.{IsBoundFor}
use Rattle.qap_lines.specs.LineText.{line_text}
use Rattle.pair_duals.specs.CostStep.{step_of}
use Rattle.qap_proof.specs.Claim.{IsRoot}
use Rattle.qap_proof.specs.Text.{root_text, bound_text}
use Rattle.proof_tree.specs.Shape.{HasShape}
use Rattle.proof_tree.specs.Text.{tree_text}
use Rattle.proof_tree.specs.Tree.{Tree}
use Rattle.proof_tree.specs.Valid.{Valid}

-- a root, a permutation that should have the cost, and a tree that should prove that no completion of the root costs less than the bound
pub record PairClaim : Type 0 where
  pub root : Placement
  pub cost : ℤ
  pub bound : ℤ
  pub permutation : List ℕ
  pub tree : Tree

-- the claim of this cost and bound over this root, with this permutation and this tree
abbrev pub pair_claim : Placement → ℤ → ℤ → List ℕ → Tree → PairClaim
pair_claim root cost bound permutation tree = record { root = root; cost = cost; bound = bound; permutation = permutation; tree = tree }

-- a proof's shape: a cost from -10^24 to 10^24, a bound for it, a permutation, a root of its size, and a tree over the root, which has
-- its own pair duals
pub record IsPairProof (C : PairClaim) : Type 0 where
  pub cost : IsLimited C.cost
  pub bound : IsBoundFor C.cost C.bound
  pub permutation : IsPerm C.permutation
  pub root : IsRoot (length C.permutation) C.root
  pub tree : HasShape C.root false C.tree

-- the version, the size, the cost, the permutation, the root, the bound, the tree, and the end
abbrev pub pair_proof_text : PairClaim → List ℕ
pair_proof_text C =
    line_text (codes "qapproof") (pos 2 ∷ []) ++ line_text (codes "n") (pos (length C.permutation) ∷ [])
    ++ line_text (codes "cost") (C.cost ∷ []) ++ line_text (codes "perm") (from_one C.permutation)
    ++ root_text C.root.facilities C.root.places ++ bound_text C.cost C.bound ++ tree_text C.tree ++ codes "end\n"

-- the text is that of the proof
pub record IsPairProofText (text : List ℕ) (C : PairClaim) : Type 0 where
  pub proof : IsPairProof C
  pub is : text ≡ pair_proof_text C

-- the permutation is of the instance's size and has the cost, and the tree is valid for the bound, in the instance's cost step
pub record PairProves (I : Problem) (C : PairClaim) : Type 0 where
  pub same_size : length C.permutation ≡ I.size
  pub cost : cost_of I C.permutation ≡ C.cost
  pub tree : Valid I (step_of I) C.bound C.root None C.tree
