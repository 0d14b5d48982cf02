use Rattle.std.proofs.Common.{◌≡◌, to_z, of_z}
use Rattle.std.specs.Int.{w128}
use Rattle.std.proofs.lemmas.Int.{to_z-of_z}
use Rattle.qap_search.proofs.WorkerLemmas.Standings.{handed_on}
use Rattle.qap_search.proofs.worker.turn.commit.Goals as goal

pub returns-clause-turn : goal.returns-clause-turn
returns-clause-turn g c = λ I lease last.
    let same : to_z w128 (of_z w128 c.args.cost) ≡ c.args.cost = to_z-of_z w128 c.args.cost c.ranges.cost in
    (c.commit-committed.result, c.commit-committed.ensures.did, rw same at (c.told_commit.ensures.turn I lease last c.args.txn c.commit-committed.ensures.handed_back))

pub returns-clause-stage : goal.returns-clause-stage
returns-clause-stage g c = λ I last may.
    c.told_commit.ensures.stage I last (handed_on I c.args.txn c.commit-committed.result may c.commit-committed.ensures.handed_back)
