use Rattle.std.proofs.Common.{◌∙◌, ap, sym}
use Rattle.space_txn.specs.World.{World}
use Rattle.tuple_space.specs.Step.{out, out_reply}
use Rattle.shared_space.specs.Place.{place_of}
use Rattle.shared_space.specs.Run.{outside}
use Rattle.shared_space.proofs.UnderLaw.{out_lawful, under_uncounted}
use Rattle.shared_space.proofs.alone.Alone.out.Goals as goal

pub invariant_of-self : goal.invariant_of-self
invariant_of-self g c =
    let law = g.L.Law in
    let a = c.self.inside in
    let new = c.out.new.self in
    let rest = c.out.ensures.rest in
    let same = ap (λ (w : World). w.commits) rest in
    let h = c.self.invariant in (
      h.0,
      h.1 ∙ sym same,
      under_uncounted law.lawful law.allowed law.begins law.changes law.limit law.reached law.goes_on (place_of a.space a.shares a.left a.closed) (place_of new a.shares a.left a.closed)
          (outside (out c.args.tuple c.args.lease) (out_reply c.out.result)) c.requires.changes (c.out.ensures.step, ap (λ (w : World). place_of w a.shares a.left a.closed) rest) tt
          (out_lawful law.lawful law.allowed law.begins law.changes a.space new c.args.tuple c.args.lease (out_reply c.out.result) c.requires.free c.out.ensures.step same h.2.content) same (λ closed. closed) h.2,
    )
