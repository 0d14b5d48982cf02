-- The result of a search.
use Rattle.std.specs.Prelude.{◌≡◌, ◌≤ℤ◌, ℕ, ◌<◌, List, length, ℤ, Option, Some, IfSome}
use Rattle.std.specs.List.{sum_by}
use Rattle.qap_cost.specs.Instance.{Problem}
use Rattle.qap_cost.specs.Objective.{NoneCostsLess, Permutes, cost_of}
use Rattle.qap_cert.specs.Certificate.{Claim, IsCertificate, Certifies}
use Rattle.qap_cert.specs.Tree.{node_count}
use Rattle.shared_space.specs.Limit.{IsWithin}
use Rattle.tuple_match.specs.FieldValue.{FieldValue}
use Rattle.qap_search.specs.Law.CutTree.{IsCutTree}
use Rattle.qap_search.specs.Tuples.Piece.{open_count}
use Rattle.qap_search.specs.Law.Search.{Search, NoneBelow, whole}
use Rattle.qap_search.specs.Certificate.Stopped.{CertifiesStopped}
use Rattle.qap_search.specs.declared.runs.answer.Answer.{Answer}
use Rattle.qap_search.specs.declared.runs.answer.Least.{Least}
use Rattle.qap_search.specs.declared.worker.report.Report.{Report}
use Rattle.qap_search.specs.declared.runs.answer.SolveError.{SolveError}
use Rattle.qap_search.specs.declared.runs.answer.SolveError.TheVariants.{Unfinished, Stopped, OutOfMemory}

-- the certificate certifies its cost as the least one of the instance, with a tree of this many nodes
pub record CertifiesLeast (I : Problem) (nodes : ℕ) (C : Claim) : Type 0 where
  pub certificate : IsCertificate C
  pub certified : Certifies I C
  pub closed : C.bound ≡ C.cost
  pub nodes_are : node_count C.tree ≡ nodes

-- the sum of the accepted commits in the reports
abbrev pub accepted_of : List Report → ℕ
accepted_of reports = sum_by (λ r. r.accepted) reports

-- a certificate of the instance's least cost, and a report for each of this many workers, whose accepted commits sum to
-- the number of nodes of the certificate's tree, and at most the limit
pub record IsAnswer (I : Problem) (workers : ℕ) (limit : Option ℕ) (a : Answer) : Type 0 where
  pub least : CertifiesLeast I (accepted_of a.reports.items) a.certificate
  pub one_each : length a.reports.items ≡ workers
  pub within : IsWithin limit (accepted_of a.reports.items)

-- after this many commits the search has left a cut tree without open nodes, with this incumbent of this cost
pub record LeavesBest (S : Search) (commits : ℕ) (p : List ℕ) (c : ℤ) : Type 0 where
  pub content : List (List FieldValue)
  pub tree : IsCutTree S content commits
  pub none_open : open_count content ≡ 0
  pub best : tree.permutation ≡ p
  pub costs : tree.cost ≡ c

-- a permutation of the instance with its cost, and none that completes the root costs less; and a report for each of
-- this many workers, whose accepted commits sum to those of the search that has left it, at most the limit
pub record IsLeastFrom (S : Search) (workers : ℕ) (limit : Option ℕ) (a : Least) : Type 0 where
  pub permutes : Permutes S.instance a.permutation
  pub costs : cost_of S.instance a.permutation ≡ a.cost
  pub least : NoneBelow S a.cost
  pub left : LeavesBest S (accepted_of a.reports.items) a.permutation a.cost
  pub one_each : length a.reports.items ≡ workers
  pub within : IsWithin limit (accepted_of a.reports.items)

-- a permutation of the instance with its cost, and none costs less; and a report for each of this many workers, whose
-- accepted commits sum to those of the search that has left it, at most the limit
pub record IsLeastAnswer (I : Problem) (workers : ℕ) (limit : Option ℕ) (a : Least) : Type 0 where
  pub permutes : Permutes I a.permutation
  pub costs : cost_of I a.permutation ≡ a.cost
  pub least : NoneCostsLess I a.cost
  pub left : LeavesBest (whole I) (accepted_of a.reports.items) a.permutation a.cost
  pub one_each : length a.reports.items ≡ workers
  pub within : IsWithin limit (accepted_of a.reports.items)

-- what is left when the limit of commits was reached with nodes open: a certificate with these nodes closed,
-- whose permutation costs no more than the known one, and a report for each of this many workers, whose
-- accepted commits sum to the limit
pub record IsStoppedAnswer (S : Search) (workers : ℕ) (limit : Option ℕ) (a : Answer) : Type 0 where
  pub reached : limit ≡ Some (accepted_of a.reports.items)
  pub one_each : length a.reports.items ≡ workers
  pub stopped : CertifiesStopped S.instance (accepted_of a.reports.items) a.certificate
  pub no_dearer : a.certificate.cost ≤ℤ S.known.cost

-- this many nodes of the content are open, and its commits are fewer than the limit
pub record IsOpenBelow (limit : Option ℕ) (content : List (List FieldValue)) (commits count : ℕ) : Type 0 where
  pub some : 0 < count
  pub counted : open_count content ≡ count
  pub below : IfSome limit (λ n. commits < n)

-- the search has left a cut tree so
pub record LeavesOpen (S : Search) (limit : Option ℕ) (count : ℕ) : Type 0 where
  pub content : List (List FieldValue)
  pub commits : ℕ
  pub tree : IsCutTree S content commits
  pub so_many : IsOpenBelow limit content commits count

-- why there is no answer: this many nodes are open, and the limit of commits was not reached; it was reached before; or
-- memory ran out
abbrev pub IsSearchFault : Search → ℕ → Option ℕ → SolveError → Type 0
IsSearchFault S workers limit (Unfinished count) = LeavesOpen S limit count
IsSearchFault S workers limit (Stopped a) = IsStoppedAnswer S workers limit a
IsSearchFault S workers limit OutOfMemory = Unit {0}

-- likewise for a search of the whole instance
abbrev pub IsSolveFault : Problem → ℕ → Option ℕ → SolveError → Type 0
IsSolveFault I = IsSearchFault (whole I)
