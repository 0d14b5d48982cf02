-- A tree at the beginning of decided nodes in order.
use Rattle.std.specs.Prelude.{◌≡◌, ◌⊎◌, ℕ, ◌+◌, ◌-◌, ◌*◌, ◌<◌, List, ◌++◌, length, reverse, ℤ, pos, slice_index, slice_index_or}
use Rattle.qap_cost.specs.Placement.{Placement, root_of}
use Rattle.qap_cert.specs.Tree.{Node}
use Rattle.space_txn.specs.Content.{SameItems}
use Rattle.tuple_match.specs.FieldValue.{FieldValue}
use Rattle.qap_search.specs.Tuples.Piece.{pieces}
use Rattle.qap_search.specs.Certificate.Pieces.{decided_tuples}
use Rattle.qap_search.specs.Law.SearchTree.{IsTree, searched}
use Rattle.qap_search.specs.declared.tuples.parsing.DecidedNode.{DecidedNode}
use Rattle.qap_search.specs.declared.certificate.error.AssembleError.{AssembleError}
use Rattle.qap_search.specs.declared.certificate.error.AssembleError.TheVariants.{NotATree, OutOfMemory}

-- any duals
abbrev pub AnyDuals : Placement → List ℤ → List ℤ → Type 0
AnyDuals x u v = Unit {0}

-- the nodes that are taken from the end, as tuples in the order of taking
abbrev pub ahead : List DecidedNode → List (List FieldValue)
ahead nodes = decided_tuples (reverse nodes)

-- the tuples begin with those of this tree at x, and continue with the rest
pub record BeginWith (x : Placement) (s : Node) (tuples rest : List (List FieldValue)) : Type 0 where
  pub tree : IsTree AnyDuals x (searched s)
  pub is : tuples ≡ pieces x (searched s) ++ rest

-- they begin with those of no tree at x
abbrev pub BeginWithNone : Placement → List (List FieldValue) → Type 0
BeginWithNone x tuples = (s : Node) (rest : List (List FieldValue)) → BeginWith x s tuples rest → ⊥

-- why no tree is built: memory ran out, or the tuples begin with those of no tree at x
abbrev pub IsBuildFault : Placement → List (List FieldValue) → AssembleError → Type 0
IsBuildFault x tuples e = (e ≡ OutOfMemory) ⊎ ((e ≡ NotATree) × BeginWithNone x tuples)

-- each facility and each location of the two rows, alternately, is at the beginning of the list
abbrev pub BeginsByTurns : List ℕ → List ℕ → List ℤ → Type 0
BeginsByTurns facilities places list =
    (t : ℕ) → t < length facilities →
    (slice_index_or list (2 * t) (pos 0) ≡ pos (slice_index facilities t)) × (slice_index_or list (2 * t + 1) (pos 0) ≡ pos (slice_index places t))

-- the last two numbers of the list
abbrev pub EndsWith : ℕ → ℕ → List ℤ → Type 0
EndsWith f k list = (slice_index_or list (length list - 2) (pos 0) ≡ pos f) × (slice_index_or list (length list - 1) (pos 0) ≡ pos k)

-- the tuples, in any order, are those of this tree at the root of size n
pub record AreTuplesOf (n : ℕ) (tuples : List (List FieldValue)) (s : Node) : Type 0 where
  pub tree : IsTree AnyDuals (root_of n) (searched s)
  pub taken_apart : SameItems tuples (pieces (root_of n) (searched s))
