-- The progress of a search.
use Rattle.std.specs.Prelude.{ℕ, ◌≤◌, ◌≤ℤ◌}
use Rattle.qap_cost.specs.Instance.{Problem}
use Rattle.subtree_search.specs.Best.{IsIncumbent}
use Rattle.tree_search.specs.declared.progress.Progress.{Progress}

-- an incumbent of the instance, and at most this many decided nodes
pub record IsProgress (I : Problem) (limit : ℕ) (p : Progress) : Type 0 where
  pub incumbent : IsIncumbent I p.incumbent
  pub within : p.nodes ≤ limit

-- likewise after some more nodes: the incumbent costs no more than before
pub record Advances (I : Problem) (limit : ℕ) (old new : Progress) : Type 0 where
  pub after : IsProgress I limit new
  pub no_worse : new.incumbent.cost ≤ℤ old.incumbent.cost
