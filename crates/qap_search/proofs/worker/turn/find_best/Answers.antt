use Rattle.qap_search.proofs.worker.turn.find_best.Goals as goal

pub returns-clause-turn : goal.returns-clause-turn
returns-clause-turn g c = λ I h.
    let hand = rw c.in-Some.is at h.hand in
    rw c.in-Some.is (c.seek_best.ensures.turn I c.args.tools.now.lease_ms hand.instance h.law hand.thought (rw c.in-Some.is at h.ready) hand.stage_is)
