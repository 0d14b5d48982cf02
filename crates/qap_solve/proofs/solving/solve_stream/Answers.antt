use Rattle.std.proofs.Common.{inl, inr, refl, true, false}
use Rattle.std.proofs.lemmas.Result.{MatchResult-weaker, err_from_is_err_and}
use Rattle.qap_solve.proofs.Texts.{solved_as}
use Rattle.qap_solve.proofs.solving.solve_stream.Goals as goal

pub returns-in-Permutation : goal.returns-in-Permutation
returns-in-Permutation g c =
    let I = c.in_ok-instance.instance in
    let input = c.in_ok-instance.ensures in
    let options = c.args.options.now in
    let found = rw c.in-Permutation.is at c.in_ok-found.ensures in
    let told = c.put_least.ensures I options.nodes found.1 in
    MatchResult-weaker c.put_least.result told.2
    (λ _ sent. (told.0, solved_as _ options.nodes options.cert false I input.0 told.0 input.1 found.0 told.1, sent))
    (λ e stops. inr (inl (told.0, solved_as _ options.nodes options.cert false I input.0 told.0 input.1 found.0 told.1, stops)))

pub returns-in-Certificate : goal.returns-in-Certificate
returns-in-Certificate g c =
    let I = c.in_ok-instance.instance in
    let input = c.in_ok-instance.ensures in
    let options = c.args.options.now in
    let found = rw c.in-Certificate.is at c.in_ok-found.ensures in
    let told = c.put_proof.ensures options.nodes found.1 found.2 in
    MatchResult-weaker c.put_proof.result told.2
    (λ _ sent. (told.0, solved_as _ options.nodes options.cert true I input.0 told.0 input.1 found.0 told.1, sent))
    (λ e stops. inr (inl (told.0, solved_as _ options.nodes options.cert true I input.0 told.0 input.1 found.0 told.1, stops)))

pub returns-in_err-put_stopped-in-Stopped : goal.returns-in_err-put_stopped-in-Stopped
returns-in_err-put_stopped-in-Stopped g c =
    let stopped = rw c.in-Stopped.is at c.in_ok-found.ensures in
    let told = c.in_err-put_stopped-in-Stopped.ensures {u = tt} stopped.0 stopped.2 in
    let p = err_from_is_err_and c.from_residual-in_err-put_stopped-in-Stopped.result c.from_residual-in_err-put_stopped-in-Stopped.ensures.1 in
    rw (p.1, p.2) (inr (inr (
      told.0,
      record { instance = c.in_ok-instance.instance; rest = c.in_ok-instance.ensures.0; input = c.in_ok-instance.ensures.1; limit = stopped.0; is = stopped.1; holds = told.1 },
      inr told.2,
    )))

pub returns : goal.returns
returns g c =
    let stopped = rw c.in-Stopped.is at c.in_ok-found.ensures in
    let told = c.in_ok-put_stopped-in-Stopped.ensures {u = tt} stopped.0 stopped.2 in
    inr (inr (
      told.0,
      record { instance = c.in_ok-instance.instance; rest = c.in_ok-instance.ensures.0; input = c.in_ok-instance.ensures.1; limit = stopped.0; is = stopped.1; holds = told.1 },
      inl (refl, told.2),
    ))
