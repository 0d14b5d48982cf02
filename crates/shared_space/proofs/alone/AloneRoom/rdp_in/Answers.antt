use Rattle.std.proofs.Common.{◌∙◌, refl, sym}
use Rattle.space_txn.specs.Machine.{find_answer, rdp_in}
use Rattle.shared_space.specs.Event.{answered, call}
use Rattle.shared_space.specs.Place.{place_of}
use Rattle.shared_space.specs.Run.{asks}
use Rattle.shared_space.proofs.UnderLaw.{under_kept}
use Rattle.shared_space.proofs.alone.AloneRoom.rdp_in.Goals as goal

pub invariant_of-self : goal.invariant_of-self
invariant_of-self g c =
    let law = g.L.Law in
    let a = c.self.inside in
    let new = c.rdp_in.new.self in
    let keeps = c.content_law.ensures.steps a.space c.args.txn.now (rdp_in c.args.template.now) (find_answer c.rdp_in.result) new c.rdp_in.new.txn c.rdp_in.ensures.step tt in
    let h = c.self.invariant in (
      h.0,
      h.1 ∙ sym keeps.counted,
      under_kept law.lawful law.allowed law.begins law.changes law.limit law.reached law.goes_on law.unordered (place_of a.space a.shares a.left a.closed) (place_of new a.shares a.left a.closed)
          (asks (call c.args.txn.now (rdp_in c.args.template.now)) (answered (find_answer c.rdp_in.result) c.rdp_in.new.txn)) tt (c.rdp_in.ensures.step, refl) keeps keeps (λ closed. closed) h.2,
    )
