-- The result of a search of an instance, for a run.
use Rattle.std.specs.Prelude.{◌≡◌, ℕ, Bool, true, false, List, ℤ, Option, Some}
use Rattle.qap_cost.specs.Instance.{Problem}
use Rattle.qap_cost.specs.Objective.{NoneCostsLess, Permutes, cost_of}
use Rattle.qap_cert.specs.Certificate.{IsCertificate}
use Rattle.qap_search.specs.Runs.Answer.{LeavesBest}
use Rattle.qap_search.specs.Law.Search.{whole}
use Rattle.qap_search.specs.Certificate.Stopped.{CertifiesStopped}
use Rattle.qap_solve.specs.Solution.{ShowsLeast}
use Rattle.shared_space.specs.Limit.{IsWithin}
use Rattle.qap_solve.specs.declared.solving.Outcome.{Outcome}
use Rattle.qap_solve.specs.declared.solving.Outcome.TheVariants.{Permutation, Certificate, Stopped}

-- a permutation of the instance with its cost, and none costs less: it is the incumbent of a cut tree without open nodes, in which no
-- more nodes are decided than the limit, if there is one
pub record IsLeastFound (I : Problem) (nodes : Option ℕ) (p : List ℕ) (c : ℤ) : Type 0 where
  pub permutes : Permutes I p
  pub costs : cost_of I p ≡ c
  pub least : NoneCostsLess I c
  pub decided : ℕ
  pub left : LeavesBest (whole I) decided p c
  pub within : IsWithin nodes decided

-- a permutation of least cost, or a certificate of that cost, as requested; or a certificate of a bound, if the search was
-- stopped at its node limit
abbrev pub IsOutcome : Problem → Option ℕ → Bool → Outcome → Type 0
IsOutcome I nodes cert (Permutation found) = (cert ≡ false) × IsLeastFound I nodes found.permutation found.cost
IsOutcome I nodes cert (Certificate C) = (cert ≡ true) × IsCertificate C × ShowsLeast I nodes C
IsOutcome I nodes cert (Stopped C) = (limit : ℕ) × (nodes ≡ Some limit) × CertifiesStopped I limit C
