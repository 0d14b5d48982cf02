use Rattle.std.proofs.Common.{◌≡◌, ℕ, ap, subst, sym, ◌∙◌, rules, to_z, of_z}
use Rattle.std.specs.Int.{w128}
use Rattle.std.specs.Prelude.{ℤ}
use Rattle.std.proofs.lemmas.Result.{err_from_is_err_and}
use Rattle.qap_cost.specs.Instance.{Problem}
use Rattle.qap_cert.specs.Certificate.{claim_of}
use Rattle.qap_lines.specs.Bound.{IsBoundFor}
use Rattle.qap_search.specs.Certificate.Assembling.{IsAssembleFault}
use Rattle.qap_search.specs.Certificate.ClosedTuples.{AreClosed}
use Rattle.qap_search.specs.Certificate.Finished.{IsAssembled}
use Rattle.qap_search.specs.Certificate.Stopped.{IsStoppedFault}
use Rattle.qap_search.proofs.CertificateLemmas.StoppedAssembling.{closing_fault, stopped_fault, stopped_made, too_low}
use Rattle.qap_search.proofs.certificate.stopped_assembling.assemble_stopped_by.Goals as goal

pub returns-in_err-closed : goal.returns-in_err-closed
returns-in_err-closed g c =
    let tuples = c.args.tuples.items in
    let p = err_from_is_err_and c.from_residual-in_err-closed.result c.from_residual-in_err-closed.ensures.1 in
    rw (p.1, p.2)
    (subst (λ (J : Problem). IsStoppedFault J tuples c.in_err-closed.field-0.0) c.in_ok-ranked.ensures.value
    (closing_fault c.in_ok-ranked.ranked tuples c.in_err-closed.field-0.0 (c.in_err-closed.ensures {u = tt})))

pub returns-in_err-finished : goal.returns-in_err-finished
returns-in_err-finished g c =
    let I = c.args.instance.now in
    let tuples = c.args.tuples.items in
    let closed = c.in_ok-closed.closed.items in
    let shut = subst (λ (J : Problem). AreClosed J tuples closed) c.in_ok-ranked.ensures.value c.in_ok-closed.ensures in
    let p = err_from_is_err_and c.from_residual-in_err-finished.result c.from_residual-in_err-finished.ensures.1 in
    rw (p.1, p.2)
    (stopped_fault I tuples closed c.in_err-finished.field-0.0 shut
    (subst (λ (n : ℕ). IsAssembleFault n closed c.in_err-finished.field-0.0) c.size.ensures.value (c.in_err-finished.ensures {u = tt})))

pub returns-in-Ok : goal.returns-in-Ok
returns-in-Ok g c =
    let I = c.args.instance.now in
    let tuples = c.args.tuples.items in
    let closed = c.in_ok-closed.closed.items in
    let A = c.in_ok-finished.finished in
    let shut = subst (λ (J : Problem). AreClosed J tuples closed) c.in_ok-ranked.ensures.value c.in_ok-closed.ensures in
    let a = subst (λ (n : ℕ). IsAssembled n closed A) c.size.ensures.value c.in_ok-finished.ensures.0 in
    let same : to_z w128 (of_z w128 c.in_ok-bound.bound) ≡ c.in_ok-bound.bound = search rules in
    stopped_made I tuples closed A c.in-Ok.certificate c.in_ok-bound.bound shut a c.in_ok-bound.ensures
    (c.in-Ok.ensures.0 ∙ ap (λ (g : ℤ). claim_of A.cost g A.permutation A.tree) same) c.in-Ok.ensures.1

pub returns : goal.returns
returns g c =
    let I = c.args.instance.now in
    let tuples = c.args.tuples.items in
    let closed = c.in_ok-closed.closed.items in
    let A = c.in_ok-finished.finished in
    let shut = subst (λ (J : Problem). AreClosed J tuples closed) c.in_ok-ranked.ensures.value c.in_ok-closed.ensures in
    let a = subst (λ (n : ℕ). IsAssembled n closed A) c.size.ensures.value c.in_ok-finished.ensures.0 in
    let same : to_z w128 (of_z w128 c.in_ok-bound.bound) ≡ c.in_ok-bound.bound = search rules in
    too_low I tuples closed A c.in_ok-bound.bound c.size.ensures.instance.positive c.size.ensures.instance.small shut a c.in_ok-bound.ensures
    (λ (b : IsBoundFor A.cost c.in_ok-bound.bound). c.in-Err.ensures.2 (subst (IsBoundFor A.cost) (sym same) b))
