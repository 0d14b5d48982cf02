-- Schedules of workers' turns, and the runs of a search that follow them.
use Rattle.std.specs.Prelude.{◌≡◌, ℕ, ◌+◌, ◌-◌, ◌^◌, min, Bool, true, false, List, [], ◌∷◌, All, map, replicate, set, slice_get, Option, Some, None, Ok}
use Rattle.tuple_space.specs.Step.{Reply}
use Rattle.shared_space.specs.Event.{Did, advance, moved}
use Rattle.shared_space.specs.Place.{Place, place_of}
use Rattle.qap_cost.specs.Instance.{Problem}
use Rattle.qap_search.specs.Worker.Hand.{HandValue, is_due, new_hand}
use Rattle.qap_search.specs.Runs.Opening.{opening_of}
use Rattle.qap_search.specs.Law.Search.{whole}
use Rattle.qap_search.specs.Worker.Thinking.{Thinks}
use Rattle.qap_search.specs.Worker.Turn.{Turn}
use Rattle.space_txn.specs.Content.{content_of}
use Rattle.qap_search.specs.Law.CutTree.{IsCutTree}
use Rattle.qap_search.specs.declared.worker.report.Report.{Report}
use Rattle.qap_search.specs.declared.worker.report.Ended.TheVariants.{Done}
use Rattle.qap_search.specs.declared.runs.run.Run.{Run}
use Rattle.qap_search.specs.declared.runs.schedule.Step.{Step}
use Rattle.qap_search.specs.declared.runs.schedule.Step.TheVariants as steps

-- the state of one worker, and the counts of those that were lost in its place
pub record PostValue : Type 0 where
  pub hand : HandValue
  pub accepted : ℕ
  pub refused : ℕ

-- no worker has an evaluation due
abbrev pub AreReady : List PostValue → Type 0
AreReady posts = All (λ p. is_due p.hand.stage ≡ false) posts

-- a run at one moment: the workers' states in order, and the space
pub record Moment : Type 0 where
  pub posts : List PostValue
  pub place : Place

-- the evaluation that a step requires, if any
abbrev pub ThinksIf : Bool → HandValue → HandValue → Type 0
ThinksIf true stepped new = Thinks stepped new
ThinksIf false stepped new = new ≡ stepped

-- a worker's turn: one step that found memory, and the evaluation that it requires
pub record TakesTurn (old : HandValue) (before : Place) (new : HandValue) (after : Place) : Type 0 where
  pub stepped : HandValue
  pub told : Bool
  pub step : Turn Did old before (Ok told) stepped after
  pub thought : ThinksIf (is_due stepped.stage) stepped new

-- counts saturate at 64 bits
abbrev pub together : ℕ → ℕ → ℕ
together x y = min (x + y) (2 ^ 64 - 1)

-- a new worker in place of one that is lost with its transaction, which is not ended; the lost one's
-- count is kept
abbrev pub after_loss : Problem → ℕ → PostValue → PostValue
after_loss I lease p = record {
  hand = new_hand I lease;
  accepted = p.accepted + p.hand.accepted;
  refused = together p.refused p.hand.refused;
}

-- the turn of this worker; if there is none, nothing changes
abbrev pub TurnOf : Option PostValue → ℕ → Moment → Moment → Type 0
TurnOf None w old new = new ≡ old
TurnOf (Some post) w old new =
    (hand : HandValue) × TakesTurn post.hand old.place hand new.place × (new.posts ≡ set old.posts w (record post { hand = hand }))

-- the moment after this worker is lost
abbrev pub without_worker : Problem → ℕ → Option PostValue → ℕ → Moment → Moment
without_worker I lease None w old = old
without_worker I lease (Some post) w old = record old { posts = set old.posts w (after_loss I lease post) }

-- the effect of one step of a schedule: a turn is one event of the space, advancing the moment is one, and a loss is none
abbrev pub Moves : Problem → ℕ → Moment → Step → Moment → Type 0
Moves I lease old (steps.Turn w) new = TurnOf (slice_get old.posts w) w old new
Moves I lease old (steps.Advance moment) new =
    (reply : Reply) × Did old.place (advance moment) (moved reply) new.place × (new.posts ≡ old.posts)
Moves I lease old (steps.Lose w) new = new ≡ without_worker I lease (slice_get old.posts w) w old

-- the effect of a schedule, step by step
abbrev pub Runs : Problem → ℕ → Moment → List Step → Moment → Type 0
Runs I lease old [] new = new ≡ old
Runs I lease old (s ∷ rest) new = (next : Moment) × Moves I lease old s next × Runs I lease next rest new

-- a new worker, with nothing counted
abbrev pub beginner : Problem → ℕ → PostValue
beginner I lease = record { hand = new_hand I lease; accepted = 0; refused = 0 }

-- the beginning: the initial space of a search, and this many new workers
abbrev pub start_of : Problem → ℕ → ℕ → Moment
start_of I lease workers =
    record { posts = replicate workers (beginner I lease); place = place_of (opening_of (whole I)) workers 0 false }

-- the report on the workers in one place
abbrev pub report_of : PostValue → Report
report_of p = record { accepted = p.accepted + p.hand.accepted; refused = together p.refused p.hand.refused; ended = Done }

-- The run is one of the schedule, by workers with transactions leased for 1000 ms, and its tuples are a cut tree of the instance.
pub record IsRun (I : Problem) (workers : ℕ) (schedule : List Step) (r : Run) : Type 0 where
  pub end : Moment
  pub runs : Runs I 1000 (start_of I 1000 workers) schedule end
  pub space : r.space ≡ end.place.world
  pub reports : r.reports.items ≡ map report_of end.posts
  pub cut_tree : IsCutTree (whole I) (content_of r.space) r.space.commits
