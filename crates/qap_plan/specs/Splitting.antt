-- The proof of a search that was stopped early, and the parts that it still needs.
use Rattle.std.specs.Prelude.{◌≡◌, All}
use Rattle.qap_cost.specs.Instance.{Problem}
use Rattle.qap_cost.specs.Placement.{Placement}
use Rattle.qap_proof.specs.Claim.{IsProof, NoneCompletesForLess, Proves}
use Rattle.qap_proof.specs.Missing.{AreMissing, IsMissingBounded}
use Rattle.qap_plan.specs.declared.search.splitting.Skeleton.{Skeleton}

-- a valid proof over the root with the parts that it still needs, which suffice
pub record IsSkeleton (I : Problem) (x : Placement) (s : Skeleton) : Type 0 where
  pub shape : IsProof s.proof
  pub proves : Proves I s.proof
  pub over : s.proof.root ≡ x
  pub missing : AreMissing I s.proof s.parts.items
  pub enough : All (IsMissingBounded I s.proof.cost) s.parts.items → NoneCompletesForLess I s.proof.root s.proof.cost
