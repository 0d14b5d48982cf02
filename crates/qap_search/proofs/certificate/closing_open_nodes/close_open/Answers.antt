use Rattle.std.proofs.Common.{◌≡◌, ◌++◌, ◌∷◌, [], inl, inr, ⊎_elim, ap, subst, sym, rules, arith}
use Rattle.std.specs.List.{AllZip, sum_by}
use Rattle.std.proofs.lemmas.List.Elements.{AllZip-push}
use Rattle.std.proofs.lemmas.List.Sums.{sum_by-append, sum_by-cons}
use Rattle.std.proofs.lemmas.Result.{err_from_is_err_and}
use Rattle.qap_search.specs.Certificate.ClosedTuples.{IsClosedTuple}
use Rattle.qap_search.proofs.certificate.closing_open_nodes.close_open.Goals as goal

pub returns-in_err-new : goal.returns-in_err-new
returns-in_err-new c =
    let done = c.loop-tuple.invariant.0 in
    let rest = c.pop.new.self.items in
    let tuple = c.in-Some.tuple in
    let p = err_from_is_err_and c.from_residual-in_err-new.result c.from_residual-in_err-new.ensures.1 in
    rw (p.1, p.2) (⊎_elim inl (λ fault. inr (
      fault.0,
      record {
        tuple = tuple;
        rest = rest ++ done;
        among = λ f.
            let whole = c.loop-tuple.invariant.1 f in
            let left = sum_by-append f c.loop-tuple.tuples.items done in
            let popped = ap (sum_by f) c.in-Some.ensures.items in
            let last = sum_by-append f rest (tuple ∷ []) in
            let first = sum_by-cons f tuple (rest ++ done) in
            let others = sum_by-append f rest done in
            omega arith;
        wrong = fault.1;
      },
    ))
    (c.in_err-new.ensures {u = tt}))

pub loop-tuple-preserved : goal.loop-tuple-preserved
loop-tuple-preserved c =
    let done = c.loop-tuple.invariant.0 in
    let rest = c.pop.new.self.items in
    let tuple = c.in-Some.tuple in
    let new = c.in_ok-new.new in
    let R = IsClosedTuple c.args.instance.now in
    let pushed : c.push.new.self.items ≡ c.loop-tuple.closed.items ++ new ∷ [] = search rules in (
      done ++ tuple ∷ [],
      λ f.
          let whole = c.loop-tuple.invariant.1 f in
          let left = sum_by-append f c.loop-tuple.tuples.items done in
          let popped = ap (sum_by f) c.in-Some.ensures.items in
          let last = sum_by-append f rest (tuple ∷ []) in
          let others = sum_by-append f rest (done ++ tuple ∷ []) in
          let end = sum_by-append f done (tuple ∷ []) in
          omega arith,
      subst (AllZip R (done ++ tuple ∷ [])) (sym pushed) (AllZip-push R done c.loop-tuple.closed.items tuple new c.loop-tuple.invariant.2 c.in_ok-new.ensures),
    )
