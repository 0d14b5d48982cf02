-- What a text establishes about an instance's costs, and what prevents it.
use Rattle.std.specs.Prelude.{◌≡◌, ℕ, ◌<◌, ◌⊎◌, List, length, ℤ, ◌<ℤ◌}
use Rattle.qap_cost.specs.Instance.{Problem}
use Rattle.qap_cost.specs.Objective.{IsLeast, NoneCostsLess, Permutes, cost_of}
use Rattle.qap_cost.specs.Placement.{Placement}
use Rattle.qap_cost.specs.Range.{IsLimited}
use Rattle.qap_proof.specs.Claim.{Claim, Proves, NoneCompletesForLess}
use Rattle.qap_proof.specs.Fault.{IsFault}
use Rattle.qap_proof.specs.Text.{IsProofText}
use Rattle.qap_proof.specs.TextFault.{IsTextFault}
use Rattle.qap_proof.specs.declared.error.ProofError.{ProofError}
use Rattle.qap_proof.specs.declared.acceptance.Verdict.{Verdict}
use Rattle.qap_proof.specs.declared.acceptance.Verdict.TheVariants.{Optimal, Gap, Part}

-- the verdict of what a proof states: if its root is empty its cost, if that is its bound, else both; otherwise its bound
abbrev pub IsVerdictOf : Claim → Verdict → Type 0
IsVerdictOf C (Optimal c) = (length C.root.facilities ≡ 0) × (C.bound ≡ C.cost) × (C.cost ≡ c)
IsVerdictOf C (Gap g c) = (length C.root.facilities ≡ 0) × (C.bound ≡ g) × (C.cost ≡ c) × (g <ℤ c)
IsVerdictOf C (Part g) = (0 < length C.root.facilities) × (C.bound ≡ g)

-- the text is that of a proof with this root, cost and bound, which it proves
pub record ProvesFor (I : Problem) (text : List ℕ) (x : Placement) (c g : ℤ) : Type 0 where
  pub proof : Claim
  pub is_text : IsProofText text proof
  pub proved : Proves I proof
  pub root : proof.root ≡ x
  pub cost : proof.cost ≡ c
  pub bound : proof.bound ≡ g

-- the text is that of a proof which establishes the verdict
pub record ShowsVerdict (I : Problem) (text : List ℕ) (verdict : Verdict) : Type 0 where
  pub proof : Claim
  pub is_text : IsProofText text proof
  pub proved : Proves I proof
  pub says : IsVerdictOf proof verdict

-- the verdict is true: the least cost; a cost that some permutation has, and a lower bound on all; or a
-- lower bound on the permutations that complete the node which the text names
abbrev pub IsSo : Problem → List ℕ → Verdict → Type 0
IsSo I text (Optimal c) = IsLeast I c
IsSo I text (Gap g c) = ((p : List ℕ) × Permutes I p × (cost_of I p ≡ c)) × NoneCostsLess I g × (g <ℤ c)
IsSo I text (Part g) = (C : Claim) × IsProofText text C × NoneCompletesForLess I C.root g

-- the numbers of a verdict are from -10^24 to 10^24
abbrev pub IsLimitedVerdict : Verdict → Type 0
IsLimitedVerdict (Optimal c) = IsLimited c
IsLimitedVerdict (Gap g c) = IsLimited g × IsLimited c
IsLimitedVerdict (Part g) = IsLimited g

-- the text is that of a proof which has this first fault
pub record HasFault (I : Problem) (text : List ℕ) (e : ProofError) : Type 0 where
  pub proof : Claim
  pub is_text : IsProofText text proof
  pub fault : IsFault I proof e

-- the first fault of the text, or of the proof that it is
abbrev pub IsRefused : Problem → List ℕ → ProofError → Type 0
IsRefused I text e = IsTextFault text e ⊎ HasFault I text e
