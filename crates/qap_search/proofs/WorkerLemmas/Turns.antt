-- A worker's step in a room of which more is known.
use Rattle.shared_space.specs.Event.{Event, Reply}
use Rattle.qap_search.specs.Worker.Hand.{HandValue}
use Rattle.qap_search.specs.Worker.Turn.{Told, Turn, TurnAt}
use Rattle.qap_search.specs.declared.worker.stage.Stage.{Stage}
use Rattle.qap_search.specs.declared.worker.stage.Stage.TheVariants.{Idle, Begun, Taken, Considered, Ready, GivingUp}

module _ {R : Type 0} (did did' : R → Event → Reply → R → Type 0) (weaker : (before : R) (event : Event) (reply : Reply) (after : R) → did before event reply after → did' before event reply after) where
  turn_at : (old : HandValue) (stage : Stage) (before : R) (told : Told) (new : HandValue) (after : R) → TurnAt did old stage before told new after → TurnAt did' old stage before told new after
  turn_at old Idle before told new after h = (h.0, weaker before _ _ after h.1, h.2)
  turn_at old (Begun t) before told new after h = (h.0, h.1, weaker before _ _ after h.2, h.3)
  turn_at old (Considered t) before told new after h = (h.0, h.1, weaker before _ _ after h.2, h.3)
  turn_at old (Ready t cost) before told new after h = (h.0, weaker before _ _ after h.1, h.2)
  turn_at old (GivingUp t) before told new after h = (h.0, weaker before _ _ after h.1, h.2)
  turn_at old (Taken t number) before told new after h = absurd h

  -- what one room may do, another one may, and so may a step in it
  pub Turn-weaker : (old : HandValue) (before : R) (told : Told) (new : HandValue) (after : R) → Turn did old before told new after → Turn did' old before told new after
  Turn-weaker old before told new after = turn_at old old.stage before told new after
