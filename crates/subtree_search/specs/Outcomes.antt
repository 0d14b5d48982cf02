-- The meaning of a search's outcome.
use Rattle.std.specs.Prelude.{◌≡◌, ℕ, ◌≤◌, List, Bool, true, ℤ, ◌≤ℤ◌}
use Rattle.qap_cost.specs.Instance.{Problem}
use Rattle.qap_cost.specs.Placement.{Placement}
use Rattle.pair_duals.specs.PairDuals.{Duals}
use Rattle.pair_duals.specs.Reduced.{Form}
use Rattle.subtree_search.specs.Closed.{IsClosed}
use Rattle.subtree_search.specs.Recorded.{HasKid, HasSplit, HasTree}
use Rattle.subtree_search.specs.declared.line.Line.{Line}
use Rattle.subtree_search.specs.Best.{Best, IsIncumbent}
use Rattle.subtree_search.specs.declared.outcome.Outcome.{Outcome}
use Rattle.subtree_search.specs.declared.outcome.Outcome.TheVariants.{Closed, LimitReached, Stopped}

-- no completion of the node costs less than the incumbent does now; as many nodes were evaluated as the limit allows; or a stop
-- was requested
abbrev pub Holds : Problem → Placement → ℕ → (Bool → Type 0) → Best → ℕ → Outcome → Type 0
Holds I y limit says best nodes Closed = IsClosed I y best.cost
Holds I y limit says best nodes LimitReached = nodes ≡ limit
Holds I y limit says best nodes Stopped = says true

-- the node of a form is closed, and its tree is recorded
abbrev pub ClosesNode : Problem → Duals → Placement → Form → ℕ → (Bool → Type 0) → Best → ℕ → (List ℕ → Type 0) → (List ℕ → Type 0) → Outcome → Type 0
ClosesNode I D y R limit says best nodes old new Closed = HasTree I D y R best.cost old new
ClosesNode I D y R limit says best nodes old new LimitReached = nodes ≡ limit
ClosesNode I D y R limit says best nodes old new Stopped = says true

-- all children of a split are closed, and recorded with it
abbrev pub ClosesSplit : Problem → Duals → Placement → Form → List ℤ → ℕ → (Bool → Type 0) → Best → ℕ → (List ℕ → Type 0) → (List ℕ → Type 0) → Outcome → Type 0
ClosesSplit I D y R u limit says best nodes old new Closed = HasSplit I D y R u best.cost old new
ClosesSplit I D y R u limit says best nodes old new LimitReached = nodes ≡ limit
ClosesSplit I D y R u limit says best nodes old new Stopped = says true

-- the k-th child on a line is closed, and recorded
abbrev pub ClosesKid : Problem → Duals → Placement → Form → Line → ℕ → ℕ → (Bool → Type 0) → Best → ℕ → (List ℕ → Type 0) → (List ℕ → Type 0) → (List ℕ → Type 0) → Outcome → Type 0
ClosesKid I D y R line k limit says best nodes ends old new Closed = HasKid I D y R line k best.cost ends old new
ClosesKid I D y R line k limit says best nodes ends old new LimitReached = nodes ≡ limit
ClosesKid I D y R line k limit says best nodes ends old new Stopped = says true

-- the incumbent is no worse, and no more nodes were evaluated than the limit allows
pub record Advances (I : Problem) (limit : ℕ) (old new : Best) (from to : ℕ) : Type 0 where
  pub incumbent : IsIncumbent I new
  pub no_worse : new.cost ≤ℤ old.cost
  pub later : from ≤ to
  pub within : to ≤ limit
