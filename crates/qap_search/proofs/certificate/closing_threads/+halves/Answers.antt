use Rattle.std.proofs.Common.{inl, inr, ⊎_elim, subst, sym}
use Rattle.std.proofs.lemmas.Result.{MatchResult-at_err, MatchResult-at_ok, MatchResult-weaker, err_from_is_err_and}
use Rattle.qap_search.specs.Certificate.ClosedTuples.{AreClosed}
use Rattle.qap_search.proofs.CertificateLemmas.Halves.{both_closed, none_in_back, none_in_front}
use Rattle.qap_search.proofs.certificate.closing_threads.+halves.Goals as goal

pub returns-in_err-left : goal.returns-in_err-left
returns-in_err-left g t c =
    let h = c.in_ok-front in
    let fault = MatchResult-at_err _ _ _ c.in_err-left.was c.join-left.ensures.first in
    let p = err_from_is_err_and c.from_residual-in_err-left.result c.from_residual-in_err-left.ensures.1 in
    rw (p.1, p.2) (⊎_elim inl (λ f. inr (f.0, none_in_front _ c.args.tuples.items h.front.items h.back.items h.ensures f.1)) fault)

pub returns-in_err-right : goal.returns-in_err-right
returns-in_err-right g t c =
    let h = c.in_ok-front in
    let fault = MatchResult-at_err _ _ _ c.in_err-right.was c.join-left.ensures.second in
    let p = err_from_is_err_and c.from_residual-in_err-right.result c.from_residual-in_err-right.ensures.1 in
    rw (p.1, p.2) (⊎_elim inl (λ f. inr (f.0, none_in_back _ c.args.tuples.items h.front.items h.back.items h.ensures f.1)) fault)

pub returns : goal.returns
returns g t c =
    let I = c.args.instance.now in
    let tuples = c.args.tuples.items in
    let h = c.in_ok-front in
    let left = MatchResult-at_ok _ _ _ c.in_ok-left.was c.join-left.ensures.first in
    let right = MatchResult-at_ok _ _ _ c.in_ok-right.was c.join-left.ensures.second in
    MatchResult-weaker c.both.result c.both.ensures
    (λ all is. subst (AreClosed I tuples) (sym is) (both_closed I tuples h.front.items h.back.items c.in_ok-left.field-0.items c.in_ok-right.field-0.items h.ensures left right))
    (λ e is. inl is)
