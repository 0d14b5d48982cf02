-- A search that is split into parts, from its skeleton.
use Rattle.std.proofs.Common.{Err, List, ℕ, Ok, Option, Result, ℤ, ◌≡◌, ◌∙◌, ◌≤ℤ◌, arith, refl, subst, sym}
use Rattle.std.proofs.lemmas.Int.{ints}
use Rattle.std.specs.Prelude.{All, IfOk}
use Rattle.qap_cost.specs.Instance.{Problem}
use Rattle.qap_cost.specs.Objective.{IsLeast, Permutes, cost_of}
use Rattle.qap_cost.specs.Placement.{Completes, Placement, root_of}
use Rattle.qap_cost.proofs.Nodes.{root_completed}
use Rattle.qap_proof.specs.Claim.{NoneCompletesForLess}
use Rattle.qap_proof.specs.Missing.{IsMissingBounded}
use Rattle.plan_search.proofs.Kept.{no_dearer_kept}
use Rattle.plan_search.specs.Keeping.{IsNoDearerKept}
use Rattle.qap_plan.specs.Estimates.{AreOfSize}
use Rattle.qap_plan.specs.Parts.{IsSplitUp}
use Rattle.qap_plan.specs.Splitting.{IsSkeleton}
use Rattle.plan_files.specs.declared.error.PlannerError.{PlannerError}
use Rattle.qap_plan.specs.declared.search.splitting.Skeleton.{Skeleton}

-- where no part is completed for less, that is the least cost, if nothing is placed at the root
enough_least : (I : Problem) (x : Placement) (s : Skeleton) → IsSkeleton I x s → x ≡ root_of I.size → All (IsMissingBounded I s.proof.cost) s.parts.items → IsLeast I s.proof.cost
enough_least I x s h empty bounded = record {
  reached = (s.proof.permutation, record { bijection = h.shape.permutation.bijection; same_size = h.proves.same_size }, h.proves.cost);
  least = λ p permutes. h.enough bounded p permutes (subst (λ (y : Placement). Completes y p) (sym (h.over ∙ empty)) (root_completed I.size p permutes.bijection permutes.same_size));
}

IsSplitUp-skeleton : (I : Problem) (x : Placement) (start : Option (List ℕ)) (p : List ℕ) (s : Skeleton) → IsNoDearerKept I x start (cost_of I p) → s.proof.cost ≤ℤ cost_of I p → IsSkeleton I x s → IsSplitUp I x start s
IsSplitUp-skeleton I x start p s first less h = record {
  proves = record { shape = h.shape; proves = h.proves; over = h.over; permutation = refl; cost = refl; bound = refl };
  no_dearer = no_dearer_kept I x start s.proof.cost (cost_of I p) first less;
  missing = h.missing;
  enough = λ bounded. subst (λ (y : Placement). NoneCompletesForLess I y s.proof.cost) h.over (h.enough bounded);
  least = enough_least I x s h;
}

-- what was begun with a permutation, and yielded a skeleton that costs no more than it
pub IsSplitUp-begun : (I : Problem) (x : Placement) (start : Option (List ℕ)) (p : List ℕ) (c : ℤ) (r : Result Skeleton PlannerError) → IsNoDearerKept I x start (cost_of I p) → c ≤ℤ cost_of I p → IfOk r (IsSkeleton I x)
    → IfOk r (λ s. s.proof.cost ≤ℤ c) → IfOk r (IsSplitUp I x start)
IsSplitUp-begun I x start p c (Ok s) first less h no_dearer = IsSplitUp-skeleton I x start p s first (omega (arith, ints, less, no_dearer)) h
IsSplitUp-begun I x start p c (Err e) first less h no_dearer = tt

-- the permutation of a skeleton
pub Permutes-split : (I : Problem) (x : Placement) (start : Option (List ℕ)) (s : Skeleton) → IsSplitUp I x start s → Permutes I s.proof.permutation
Permutes-split I x start s h = record { bijection = h.proves.shape.permutation.bijection; same_size = h.proves.proves.same_size }

-- the nodes of its parts
pub AreOfSize-split : (I : Problem) (x : Placement) (start : Option (List ℕ)) (s : Skeleton) → IsSplitUp I x start s → AreOfSize I.size s.parts.items
AreOfSize-split I x start s h = λ k d below. sym (h.missing.lists.each k d below).root.size
