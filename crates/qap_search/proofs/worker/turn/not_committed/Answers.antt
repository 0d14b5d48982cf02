use Rattle.std.proofs.Common.{ap}
use Rattle.qap_search.specs.Worker.Hand.{hand_of}
use Rattle.qap_search.specs.declared.worker.stage.Tally.{Tally}
use Rattle.qap_search.proofs.WorkerLemmas.Standings.{not_committed_after, not_expired}
use Rattle.qap_search.proofs.worker.turn.not_committed.Goals as goal

pub returns-in-Foreign : goal.returns-in-Foreign
returns-in-Foreign c = record {
  turn = λ I lease last old txn cost is.
      let h = rw is at (c.refused.ensures.turn I lease last old) in
      not_committed_after (hand_of I lease last old c.args.tally) (hand_of I lease last c.refused.result.stage c.refused.result.tally) txn cost c.args.error c.refused.result.told (not_expired c.args.error c.in-Foreign.is) h;
  stage = λ I last. c.refused.ensures.stage I last;
  accepted = ap (λ (t : Tally). t.accepted) c.refused.ensures.tally;
}
