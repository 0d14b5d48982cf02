use Rattle.std.proofs.Common.{◌∙◌, ap, sym}
use Rattle.space_txn.specs.World.{World}
use Rattle.tuple_space.specs.Step.{inp, inp_reply}
use Rattle.shared_space.specs.Place.{place_of}
use Rattle.shared_space.specs.Run.{outside}
use Rattle.shared_space.proofs.UnderLaw.{under_uncounted}
use Rattle.shared_space.proofs.alone.Alone.inp.Goals as goal

pub invariant_of-self : goal.invariant_of-self
invariant_of-self g c =
    let law = g.L.Law in
    let a = c.self.inside in
    let new = c.inp.new.self in
    let rest = c.inp.ensures.rest in
    let same = ap (λ (w : World). w.commits) rest in
    let h = c.self.invariant in (
      h.0,
      h.1 ∙ sym same,
      under_uncounted law.lawful law.allowed law.begins law.changes law.limit law.reached law.goes_on (place_of a.space a.shares a.left a.closed) (place_of new a.shares a.left a.closed)
          (outside (inp c.args.template.now) (inp_reply c.inp.result)) c.requires.may_change (c.inp.ensures.step, ap (λ (w : World). place_of w a.shares a.left a.closed) rest) tt
          (c.requires.holds _ _) same (λ closed. closed) h.2,
    )
