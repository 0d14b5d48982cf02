-- The certificate of a search with no open node.
use Rattle.std.specs.Prelude.{◌≡◌, ℕ, List, ◌∷◌, length}
use Rattle.qap_cost.specs.Placement.{root_of}
use Rattle.qap_cert.specs.Certificate.{Claim, IsCertificate}
use Rattle.space_txn.specs.Content.{SameItems}
use Rattle.tuple_match.specs.FieldValue.{FieldValue}
use Rattle.qap_search.specs.Tuples.Piece.{best_tuple, pieces}
use Rattle.qap_search.specs.Law.SearchTree.{searched}

-- the tuples of a certificate of size n
abbrev pub certificate_tuples : ℕ → Claim → List (List FieldValue)
certificate_tuples n C = best_tuple C.cost C.permutation ∷ pieces (root_of n) (searched C.tree)

-- the tuples, in any order, are those of this certificate of size n, whose bound is its cost
pub record IsAssembled (n : ℕ) (tuples : List (List FieldValue)) (C : Claim) : Type 0 where
  pub certificate : IsCertificate C
  pub same_size : length C.permutation ≡ n
  pub closed : C.bound ≡ C.cost
  pub taken_apart : SameItems tuples (certificate_tuples n C)
