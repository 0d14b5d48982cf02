-- The evaluation of a node: duals that fit its Gilmore-Lawler matrix and whose sum an assignment reaches, the permutation that
-- completes the node by that assignment, and a facility to split it on.
use Rattle.std.specs.Prelude.{◌≡◌, ◌-◌, ℕ, ℤ, List, length, ◌+ℤ◌, MatchOption, Option}
use Rattle.qap_cost.specs.Completion.{IsCompletion}
use Rattle.qap_cost.specs.Instance.{Problem}
use Rattle.qap_cost.specs.Matrix.{Square, Assigns, DualsFit, IsMatrix, assignment_cost, dual_value}
use Rattle.qap_cost.specs.Objective.{Permutes, cost_of}
use Rattle.qap_cost.specs.Placement.{Placement, IsFreeFacility, fixed_cost_of}
use Rattle.gilmore_lawler.specs.ReducedMatrix.{IsReduced}
use Rattle.gilmore_lawler.specs.Closing.{AreDuals}
use Rattle.qap_search.specs.Law.Replacement.{Best}
use Rattle.qap_search.specs.declared.node.thought.Thought.{Thought}

-- duals of a least assignment of the Gilmore-Lawler matrix of x, the bound that they give, the permutation that completes x by
-- that assignment, with its cost, and a free facility to split x on unless all are placed
pub record IsThought (I : Problem) (x : Placement) (t : Thought) : Type 0 where
  pub matrix : Square
  pub square : IsMatrix matrix
  pub reduced : IsReduced I x matrix
  pub duals : AreDuals (x.size - length x.facilities) t.u.items t.v.items
  pub fits : DualsFit matrix t.u.items t.v.items
  pub matching : List ℕ
  pub assigns : Assigns matrix matching
  pub reached : dual_value t.u.items t.v.items ≡ assignment_cost matrix matching
  pub value : t.value ≡ fixed_cost_of I x +ℤ dual_value t.u.items t.v.items
  pub completes : IsCompletion x matching t.candidate
  pub permutes : Permutes I t.candidate
  pub costs : cost_of I t.candidate ≡ t.cost
  pub branch : MatchOption t.branch (length x.facilities ≡ x.size) (IsFreeFacility x)

-- the permutation to which an evaluation completed its node, and its cost
abbrev pub candidate_of : Thought → Best
candidate_of t = record { cost = t.cost; permutation = t.candidate }

-- an evaluated node: the bound on its completions, the duals that prove it, a facility to split it on if one is free, and one of the
-- completions with its cost
pub record ThoughtValue : Type 0 where
  pub node : Placement
  pub value : ℤ
  pub u : List ℤ
  pub v : List ℤ
  pub branch : Option ℕ
  pub candidate : Best

-- the content of an evaluation of x
abbrev pub thought_on : Placement → Thought → ThoughtValue
thought_on x t = record { node = x; value = t.value; u = t.u.items; v = t.v.items; branch = t.branch; candidate = candidate_of t }
