-- A worker with its share of the commits.
use Rattle.std.specs.Prelude.{◌≡◌, ℕ}
use Rattle.shared_space.specs.Law.{Content}
use Rattle.qap_search.specs.Law.SearchLaw.{IsSearchLaw}
use Rattle.qap_search.specs.Worker.Hand.{HandValue}

-- a worker with its share, on a space that holds the search of its instance, where transactions may begin with its lease: both have
-- counted the same commits
pub record HasShare (lawful : Content → ℕ → Type 0) (allowed : Content → Content → Content → Type 0) (begins : ℕ → Type 0) (h : HandValue) (share : ℕ) : Type 0 where
  pub law : IsSearchLaw h.instance lawful allowed
  pub lease : begins h.lease
  pub counted : h.accepted ≡ share

-- after its steps the share still counts what the worker has counted, and the worker is on the same instance, with the same lease
pub record KeepsShare (old new : HandValue) (share : ℕ) : Type 0 where
  pub counted : new.accepted ≡ share
  pub instance : new.instance ≡ old.instance
  pub lease : new.lease ≡ old.lease
