use Rattle.std.proofs.Common.{◌∙◌, refl, sym}
use Rattle.space_txn.specs.Machine.{abort, end_answer}
use Rattle.shared_space.specs.Event.{answered, call}
use Rattle.shared_space.specs.Place.{place_of}
use Rattle.shared_space.specs.Run.{asks}
use Rattle.shared_space.proofs.UnderLaw.{under_kept}
use Rattle.shared_space.proofs.alone.AloneRoom.abort.Goals as goal

pub invariant_of-self : goal.invariant_of-self
invariant_of-self g c =
    let law = g.L.Law in
    let a = c.self.inside in
    let new = c.abort_leaving.new.self in
    let keeps = c.content_law.ensures.steps a.space c.args.txn abort (end_answer c.abort_leaving.result) new c.args.txn c.abort_leaving.ensures.step tt in
    let h = c.self.invariant in (
      h.0,
      h.1 ∙ sym keeps.counted,
      under_kept law.lawful law.allowed law.begins law.changes law.limit law.reached law.goes_on law.unordered (place_of a.space a.shares a.left a.closed) (place_of new a.shares a.left a.closed)
          (asks (call c.args.txn abort) (answered (end_answer c.abort_leaving.result) c.args.txn)) tt (c.abort_leaving.ensures.step, refl) keeps keeps (λ closed. closed) h.2,
    )
