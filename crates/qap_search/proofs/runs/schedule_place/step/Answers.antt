use Rattle.std.proofs.Common.{ℕ, Option, subst}
use Rattle.shared_space.specs.Event.{Did}
use Rattle.shared_space.specs.Limit.{DidWithin}
use Rattle.qap_search.proofs.WorkerLemmas.Turns.{Turn-weaker}
use Rattle.qap_search.proofs.runs.schedule_place.step.Goals as goal

pub returns-clause-turn : goal.returns-clause-turn
returns-clause-turn g c =
    Turn-weaker (λ old event reply new. DidWithin g.L.Law.limit old event reply new) (λ old event reply new. Did old event reply new)
    (λ old event reply new did. c.no_limit_law.ensures.machine old new event reply (subst (λ (limit : Option ℕ). DidWithin limit old event reply new) c.requires.limit did))
    c.args.hand.now c.args.room.now c.step.result c.step.new.self c.step.new.room c.step.ensures.turn
