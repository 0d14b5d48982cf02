use Rattle.std.proofs.Common.{◌≡◌, Some, Ok, false, inl, to_z, of_z, ◌∙◌}
use Rattle.std.specs.Int.{w128}
use Rattle.std.proofs.lemmas.Int.{to_z-of_z}
use Rattle.qap_search.proofs.WorkerLemmas.BestSteps.{best_stage, has_best, written_prepared}
use Rattle.qap_search.proofs.worker.best_steps.told_prepared.Goals as goal

pub returns-clause-turn : goal.returns-clause-turn
returns-clause-turn c = λ I lease old h p m.
    let same : to_z w128 (of_z w128 c.args.cost) ≡ c.args.cost = to_z-of_z w128 c.args.cost c.ranges.cost in
    inl (has_best I lease c.args.last.now false c.args.id c.args.txn c.exchange_writes.new.self old c.args.tally c.told_written.result.tally c.args.cost
    (Ok (Some c.args.cost)) c.told_written.result.told c.told_written.result.stage h m c.requires.cost
    (λ best there costs. written_prepared I c.args.last.now best c.args.cost c.args.prepared.now.writes c.args.txn c.exchange_writes.new.self (rw c.requires.prepared at p) costs m.writes c.exchange_writes.ensures.txn)
    (rw same at c.told_written.ensures.stage) (c.told_written.ensures.tally ∙ rw same at c.with_best.ensures))

pub returns-clause-stage : goal.returns-clause-stage
returns-clause-stage c = λ I h p m.
    let same : to_z w128 (of_z w128 c.args.cost) ≡ c.args.cost = to_z-of_z w128 c.args.cost c.ranges.cost in
    best_stage I c.args.last.now false c.args.id c.args.txn c.exchange_writes.new.self c.args.cost (Ok (Some c.args.cost)) c.told_written.result.told
    c.told_written.result.stage c.two_marks_law.ensures.taken c.two_marks_law.ensures.read h m c.requires.cost
    (λ best there costs. written_prepared I c.args.last.now best c.args.cost c.args.prepared.now.writes c.args.txn c.exchange_writes.new.self (rw c.requires.prepared at p) costs m.writes c.exchange_writes.ensures.txn)
    (rw same at c.told_written.ensures.stage)
