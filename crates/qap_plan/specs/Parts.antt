-- A search that is split into parts.
use Rattle.std.specs.Prelude.{◌≡◌, ℕ, List, Option, All}
use Rattle.qap_cost.specs.Instance.{Problem}
use Rattle.qap_cost.specs.Objective.{IsLeast}
use Rattle.qap_cost.specs.Placement.{Placement, root_of}
use Rattle.qap_proof.specs.Claim.{NoneCompletesForLess}
use Rattle.qap_proof.specs.Missing.{AreMissing, IsMissingBounded}
use Rattle.plan_search.specs.Keeping.{IsNoDearerKept}
use Rattle.plan_search.specs.Planning.{ProvesOver}
use Rattle.qap_plan.specs.declared.search.splitting.Skeleton.{Skeleton}

-- a valid proof over the root, whose permutation costs no more than the start, if there is one that completes the root; the parts
-- that it still needs; and if no permutation that completes one of their nodes costs less than the proof's, none that completes
-- the root does: that is the least cost, if nothing is placed at the root
pub record IsSplitUp (I : Problem) (x : Placement) (start : Option (List ℕ)) (s : Skeleton) : Type 0 where
  pub proves : ProvesOver I x s.proof.permutation s.proof.cost s.proof.bound s.proof
  pub no_dearer : IsNoDearerKept I x start s.proof.cost
  pub missing : AreMissing I s.proof s.parts.items
  pub enough : All (IsMissingBounded I s.proof.cost) s.parts.items → NoneCompletesForLess I x s.proof.cost
  pub least : x ≡ root_of I.size → All (IsMissingBounded I s.proof.cost) s.parts.items → IsLeast I s.proof.cost
