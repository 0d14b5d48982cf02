-- What a text establishes about an instance's least cost, and what prevents it.
use Rattle.std.specs.Prelude.{◌≡◌, ℕ, ◌⊎◌, List, ◌<ℤ◌}
use Rattle.qap_cost.specs.Instance.{Problem}
use Rattle.qap_cost.specs.Objective.{IsLeast, NoneCostsLess, Permutes, cost_of}
use Rattle.qap_cost.specs.Range.{IsLimited}
use Rattle.qap_cert.specs.Certificate.{Claim, Certifies}
use Rattle.qap_cert.specs.Fault.{IsFault}
use Rattle.qap_cert.specs.Text.{IsCertificateText}
use Rattle.qap_cert.specs.TextFault.{IsTextFault}
use Rattle.qap_cert.specs.declared.error.CertError.{CertError}
use Rattle.qap_cert.specs.declared.acceptance.Verdict.{Verdict}
use Rattle.qap_cert.specs.declared.acceptance.Verdict.TheVariants.{Optimal, Gap}

-- the verdict of what a certificate states: its cost, if that is its bound, else both
abbrev pub IsVerdictOf : Claim → Verdict → Type 0
IsVerdictOf C (Optimal c) = (C.bound ≡ C.cost) × (C.cost ≡ c)
IsVerdictOf C (Gap g c) = (C.bound ≡ g) × (C.cost ≡ c) × (g <ℤ c)

-- the text is that of a certificate which certifies the verdict
pub record ShowsVerdict (I : Problem) (text : List ℕ) (verdict : Verdict) : Type 0 where
  pub certificate : Claim
  pub is_text : IsCertificateText text certificate
  pub certified : Certifies I certificate
  pub says : IsVerdictOf certificate verdict

-- the verdict is true: the least cost; or a cost that some permutation has, and a lower bound on all
abbrev pub IsSo : Problem → Verdict → Type 0
IsSo I (Optimal c) = IsLeast I c
IsSo I (Gap g c) = ((p : List ℕ) × Permutes I p × (cost_of I p ≡ c)) × NoneCostsLess I g × (g <ℤ c)

-- the numbers of a verdict are from -10^24 to 10^24
abbrev pub IsLimitedVerdict : Verdict → Type 0
IsLimitedVerdict (Optimal c) = IsLimited c
IsLimitedVerdict (Gap g c) = IsLimited g × IsLimited c

-- the text is that of a certificate which has this first fault
pub record HasFault (I : Problem) (text : List ℕ) (e : CertError) : Type 0 where
  pub certificate : Claim
  pub is_text : IsCertificateText text certificate
  pub fault : IsFault I certificate e

-- the first fault of the text, or of the certificate that it is
abbrev pub IsRefused : Problem → List ℕ → CertError → Type 0
IsRefused I text e = IsTextFault text e ⊎ HasFault I text e
