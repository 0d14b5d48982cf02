use Rattle.std.proofs.Common.{◌∙◌, List, ap, subst, sym}
use Rattle.std.specs.Prelude.{ℤ}
use Rattle.std.proofs.lemmas.Result.{IfOk-weaker}
use Rattle.qap_cost.specs.Placement.{Placement}
use Rattle.qap_search.specs.Certificate.OpenNodes.{AreLeastDuals}
use Rattle.qap_search.specs.Tuples.Piece.{closed_tuple}
use Rattle.qap_search.proofs.certificate.closing_open_nodes.close.Goals as goal

pub returns : goal.returns
returns c =
    let I = c.args.instance.now in
    let x = c.args.closing.now.node in
    let u = c.deref.result.now in
    let v = c.deref-2.result.now in
    let answer = c.work_out.new.self.answer in
    let least : AreLeastDuals I x u v =
    subst (λ (xs : List ℤ). AreLeastDuals I x xs v) (sym c.deref.ensures.value)
    (subst (λ (ys : List ℤ). AreLeastDuals I x answer.u.items ys) (sym c.deref-2.ensures.value) c.in_ok-work_out.ensures.duals) in
    IfOk-weaker c.tuple_of_closed.result _ _
    (λ t is. record { u = u; v = v; least = least; is = is ∙ ap (λ (y : Placement). closed_tuple y u v) c.in_ok-work_out.ensures.node })
    c.tuple_of_closed.ensures
