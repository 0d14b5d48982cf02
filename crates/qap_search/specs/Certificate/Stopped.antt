-- The certificate of a search that was stopped, and the bound of its tree.
use Rattle.std.specs.Prelude.{◌≡◌, ℕ, ◌+◌, ◌-◌, ◌<◌, List, ◌∷◌, length, ℤ}
use Rattle.qap_cost.specs.Bijection.{IsPerm}
use Rattle.qap_cost.specs.Instance.{Problem}
use Rattle.qap_cost.specs.Placement.{Placement, root_of}
use Rattle.qap_cost.specs.Range.{IsLimited}
use Rattle.qap_cert.specs.Certificate.{Claim, Certifies, IsCertificate}
use Rattle.gilmore_lawler.specs.Closing.{AreDuals}
use Rattle.qap_cert.specs.Tree.{Node, node_count}
use Rattle.qap_cert.specs.Valid.{ClosesPart}
use Rattle.space_txn.specs.Content.{SameItems}
use Rattle.tuple_match.specs.FieldValue.{FieldValue}
use Rattle.qap_search.specs.Certificate.LeafBounds.{IsBoundOf}
use Rattle.qap_search.specs.Certificate.OpenNodes.{ClosedTo, undecided_count}
use Rattle.qap_search.specs.Tuples.Piece.{best_tuple, pieces}
use Rattle.qap_search.specs.Law.SearchTree.{SearchTree, IsTree, decided_count}
use Rattle.qap_search.specs.declared.certificate.error.AssembleError.{AssembleError}
use Rattle.qap_search.specs.declared.certificate.error.AssembleError.TheVariants.{Unfinished, NotATree, OutOfMemory}

-- the certificate has this tree with each open node closed, and the resulting bound
pub record IsClosedTo (I : Problem) (s : SearchTree) (C : Claim) : Type 0 where
  pub certificate : IsCertificate C
  pub same_size : length C.permutation ≡ I.size
  pub closed : ClosedTo I (root_of I.size) s C.tree
  pub least : IsBoundOf I C.cost C.tree C.bound

-- the tuples, in any order, are those of a search tree and of the permutation of this certificate, which has that tree with
-- each open node closed
pub record IsStopped (I : Problem) (tuples : List (List FieldValue)) (C : Claim) : Type 0 where
  pub tree : SearchTree
  pub taken_apart : SameItems tuples (best_tuple C.cost C.permutation ∷ pieces (root_of I.size) tree)
  pub closes : IsClosedTo I tree C

-- a dual for each free facility and each free location
abbrev pub HasDuals : Placement → List ℤ → List ℤ → Type 0
HasDuals x u v = AreDuals (x.size - length x.facilities) u v

-- the tuples, in any order, are those of this search tree of size n and of a permutation of this cost
pub record IsUnfinished (n : ℕ) (tuples : List (List FieldValue)) (c : ℤ) (p : List ℕ) (s : SearchTree) : Type 0 where
  pub cost : IsLimited c
  pub permutation : IsPerm p
  pub same_size : length p ≡ n
  pub tree : IsTree HasDuals (root_of n) s
  pub taken_apart : SameItems tuples (best_tuple c p ∷ pieces (root_of n) s)

-- with its open nodes closed, the search tree has a bound below -10^24
pub record ShowsTooLow (I : Problem) (c : ℤ) (s : SearchTree) : Type 0 where
  pub tree : Node
  pub closed : ClosedTo I (root_of I.size) s tree
  pub bound : ℤ
  pub least : IsBoundOf I c tree bound
  pub too_low : IsLimited bound → ⊥

-- the tuples form no search tree and permutation, or one with too low a bound
abbrev pub IsNotStopped : Problem → List (List FieldValue) → Type 0
IsNotStopped I tuples = (c : ℤ) (p : List ℕ) (s : SearchTree) → IsUnfinished I.size tuples c p s → ShowsTooLow I c s

-- why the tuples are not assembled
abbrev pub IsStoppedFault : Problem → List (List FieldValue) → AssembleError → Type 0
IsStoppedFault I tuples (Unfinished count) = ⊥
IsStoppedFault I tuples NotATree = IsNotStopped I tuples
IsStoppedFault I tuples OutOfMemory = Unit {0}

-- the certificate is that of a search that was stopped when it had decided this many nodes, and had others open; the
-- bounds of the leaves that were closed before are at least its cost, so that only the open ones may have less
pub record CertifiesStopped (I : Problem) (nodes : ℕ) (C : Claim) : Type 0 where
  pub certified : Certifies I C
  pub tree : SearchTree
  pub closes : IsClosedTo I tree C
  pub closed_before : IsTree (ClosesPart I C.cost) (root_of I.size) tree
  pub decided : decided_count tree ≡ nodes
  pub left : 0 < undecided_count tree
  pub counted : node_count C.tree ≡ nodes + undecided_count tree
