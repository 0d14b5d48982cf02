-- The lines before the tree in the text of a proof, and how the tree completes the text.
use Rattle.std.specs.Prelude.{◌≡◌, ℕ, ◌+◌, ◌*◌, ◌<◌, ◌++◌, List, length, ℤ, pos, codes, false, slice_index, slice_index_or}
use Rattle.qap_cost.specs.Bijection.{IsPerm}
use Rattle.qap_cost.specs.Placement.{Placement, IsFreeFacility, IsFreeLocation}
use Rattle.qap_cost.specs.Range.{IsLimited}
use Rattle.qap_lines.specs.Bound.{IsBoundFor}
use Rattle.qap_proof.specs.Claim.{claim_of, IsRoot, lines_of_root, tree_line}
use Rattle.qap_proof.specs.Shape.{HasShape}
use Rattle.qap_proof.specs.Text.{root_text, tree_text, IsProofText}
use Rattle.qap_proof.specs.TextFault.{IsFaultFromBound, IsFaultFromRoot, IsFaultFromTree, IsTextFault}
use Rattle.qap_proof.specs.Tree.{Node}
use Rattle.qap_proof.specs.declared.error.ProofError.{ProofError}

-- of numbers that give facilities and locations alternately, those of this turn are f and k, counted from 1, which may
-- be placed after the others: the facility is above each of them, and the location is free
pub record HasTurn (x : Placement) (zs : List ℤ) (turn f k : ℕ) : Type 0 where
  pub facility_is : slice_index_or zs (2 * turn) (pos 0) ≡ pos (f + 1)
  pub location_is : slice_index_or zs (2 * turn + 1) (pos 0) ≡ pos (k + 1)
  pub facility : IsFreeFacility x f
  pub location : IsFreeLocation x k
  pub behind : (t : ℕ) → t < length x.facilities → slice_index x.facilities t < f

-- the text begins with the line of a root, or with none if that is empty; the rest follows, from this line on, and a fault
-- there is one of the whole
pub record IsRooted (n : ℕ) (text : List ℕ) (x : Placement) (line : ℕ) (rest : List ℕ) : Type 0 where
  pub root : IsRoot n x
  pub line_is : line ≡ 5 + lines_of_root x.facilities
  pub is : text ≡ root_text x.facilities x.places ++ rest
  pub fault : (c : ℤ) (e : ProofError) → IsFaultFromBound x c line rest e → IsFaultFromRoot n c text e

-- the lines before the tree state a node, a cost, a permutation and a bound; the tree's first line has this number, and
-- the rest begins with it: a tree and the end there make the text that of a proof, and a fault there is one of the text
pub record HasHead (text : List ℕ) (x : Placement) (c g : ℤ) (p : List ℕ) (line : ℕ) (rest : List ℕ) : Type 0 where
  pub cost : IsLimited c
  pub permutation : IsPerm p
  pub root : IsRoot (length p) x
  pub bound : IsBoundFor c g
  pub line_is : line ≡ tree_line x c g
  pub whole : (t : Node) → HasShape x 0 false t → rest ≡ tree_text t ++ codes "end\n" → IsProofText text (claim_of x c g p t)
  pub fault : (e : ProofError) → IsFaultFromTree x line rest e → IsTextFault text e
