-- Runs of a search under a schedule: turns of workers, moments and losses in any order.
use Rattle.std.specs.Prelude.{◌≡◌, ℕ, nat_lt, Bool, true, false, List, [], ◌∷◌}
use Rattle.qap_cost.specs.Instance.{Problem}
use Rattle.shared_space.specs.Event.{Did, advance, moved}
use Rattle.shared_space.specs.Place.{Place, place_of}
use Rattle.space_txn.specs.Content.{content_of}
use Rattle.space_txn.specs.World.{World}
use Rattle.tuple_space.specs.Step.{Reply}
use Rattle.part_search.specs.Law.{IsSearched, Part}
use Rattle.part_search.specs.Opening.{IsOpening}
use Rattle.part_search.specs.Worker.{Made}
use Rattle.part_search.specs.declared.schedule.Step.{Step}
use Rattle.part_search.specs.declared.schedule.Step.TheVariants.{Turn, Advance, Lose}

-- a worker's turn is one call on the space; if no worker has the number, nothing changes
abbrev pub Turns : Problem → Bool → Place → Place → Type 0
Turns I true old new = Made Did I old new
Turns I false old new = new ≡ old

-- the effect of one step of a schedule for this many workers on the space; losing a worker, without ending its transaction, has none
abbrev pub Moves : Problem → ℕ → Place → Step → Place → Type 0
Moves I workers old (Turn w) new = Turns I (nat_lt w workers) old new
Moves I workers old (Advance moment) new = (reply : Reply) × Did old (advance moment) (moved reply) new
Moves I workers old (Lose w) new = new ≡ old

-- the effect of a schedule, step by step
abbrev pub Runs : Problem → ℕ → Place → List Step → Place → Type 0
Runs I workers old [] new = new ≡ old
Runs I workers old (s ∷ rest) new = (next : Place) × Moves I workers old s next × Runs I workers next rest new

-- a run of the schedule from the initial space of a search ends in this world, whose tuples satisfy the law of the search
pub record IsRun (S : Part) (workers : ℕ) (schedule : List Step) (w : World) : Type 0 where
  pub opening : World
  pub opens : IsOpening S opening
  pub place : Place
  pub is : place.world ≡ w
  pub runs : Runs S.instance workers (place_of opening workers 0 false) schedule place
  pub searched : IsSearched S (content_of w)
