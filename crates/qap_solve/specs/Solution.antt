-- What is written for a solved instance, and for one whose search was stopped: a permutation, or a certificate.
use Rattle.std.specs.Prelude.{◌≡◌, ◌≤◌, ◌++◌, Bool, true, false, ℕ, List, Option, IfSome}
use Rattle.qap_cost.specs.Instance.{Problem}
use Rattle.qap_cost.specs.Objective.{IsLeast, NoneCostsLess, Permutes, cost_of}
use Rattle.qap_cert.specs.Acceptance.{ShowsVerdict}
use Rattle.qap_cert.specs.Certificate.{Certifies, Claim}
use Rattle.qap_cert.specs.Text.{IsCertificateText, certificate_text}
use Rattle.qap_cert.specs.Tree.{node_count}
use Rattle.qap_cert.specs.declared.acceptance.Verdict.TheVariants.{Optimal}
use Rattle.qap_cert.specs.declared.version.Version.TheVariants.{Second}
use Rattle.qap_search.specs.Runs.Answer.{LeavesBest}
use Rattle.qap_search.specs.Law.Search.{whole}
use Rattle.qap_search.specs.Certificate.Stopped.{CertifiesStopped}
use Rattle.qap_text.specs.Gap.{gap_line}
use Rattle.qap_text.specs.WrittenSolution.{solution_text}
use Rattle.shared_space.specs.Limit.{IsWithin}

-- the certificate establishes the least cost of the instance, with no more nodes than the limit, if there is one
pub record ShowsLeast (I : Problem) (nodes : Option ℕ) (C : Claim) : Type 0 where
  pub certified : Certifies I C
  pub closed : C.bound ≡ C.cost
  pub within : IfSome nodes (λ n. node_count C.tree ≤ n)

-- the text is that of a permutation of the instance, with its cost, and none costs less: it is the incumbent of a cut tree without open
-- nodes, in which no more nodes are decided than the limit, if there is one
pub record IsLeastText (I : Problem) (nodes : Option ℕ) (text : List ℕ) : Type 0 where
  pub permutation : List ℕ
  pub permutes : Permutes I permutation
  pub least : IsLeast I (cost_of I permutation)
  pub is : text ≡ solution_text (cost_of I permutation) permutation
  pub decided : ℕ
  pub left : LeavesBest (whole I) decided permutation (cost_of I permutation)
  pub within : IsWithin nodes decided

-- the text is that of a certificate that establishes the least cost of the instance
pub record IsProofText (I : Problem) (nodes : Option ℕ) (text : List ℕ) : Type 0 where
  pub certificate : Claim
  pub is : text ≡ certificate_text Second certificate
  pub shown : ShowsVerdict I text (Optimal certificate.cost)
  pub least : IsLeast I certificate.cost
  pub by : ShowsLeast I nodes certificate

-- one or the other, as requested
abbrev pub IsOutput : Bool → Problem → Option ℕ → List ℕ → Type 0
IsOutput true I nodes text = IsProofText I nodes text
IsOutput false I nodes text = IsLeastText I nodes text

-- the certificate of a search that was stopped when it had decided this many nodes: its permutation is one of the
-- instance, and none costs less than its bound
pub record ShowsGap (I : Problem) (nodes : ℕ) (C : Claim) : Type 0 where
  pub stopped : CertifiesStopped I nodes C
  pub permutes : Permutes I C.permutation
  pub none_less : NoneCostsLess I C.bound

-- the text is the line of such a certificate's bound and cost, followed by that of its permutation with its cost
pub record IsGapText (I : Problem) (nodes : ℕ) (text : List ℕ) : Type 0 where
  pub certificate : Claim
  pub shown : ShowsGap I nodes certificate
  pub is : text ≡ gap_line certificate.bound certificate.cost ++ solution_text certificate.cost certificate.permutation

-- the text is that of such a certificate
pub record IsGapProofText (I : Problem) (nodes : ℕ) (text : List ℕ) : Type 0 where
  pub certificate : Claim
  pub shown : ShowsGap I nodes certificate
  pub is : text ≡ certificate_text Second certificate
  pub is_text : IsCertificateText text certificate

-- one or the other, as requested
abbrev pub IsStoppedOutput : Bool → Problem → ℕ → List ℕ → Type 0
IsStoppedOutput true I nodes text = IsGapProofText I nodes text
IsStoppedOutput false I nodes text = IsGapText I nodes text
