use Rattle.std.proofs.Common.{◌≡◌, Some, inl, inr, to_z, of_z, ◌∙◌, sym, rules}
use Rattle.std.specs.Int.{w128}
use Rattle.qap_search.specs.Worker.Hand.{hand_of, thought_of}
use Rattle.qap_search.proofs.WorkerLemmas.BestSteps.{best_stage, has_best, has_leased}
use Rattle.qap_search.proofs.worker.best_steps.told_entry.Goals as goal

pub returns-clause-turn : goal.returns-clause-turn
returns-clause-turn c = λ I lease old h m.
    let same : to_z w128 (of_z w128 c.in-Some.cost) ≡ c.in-Some.cost = search rules in
    inl (has_best I lease c.args.last.now c.args.taking c.args.id c.args.txn c.write-written.new.txn old c.args.tally c.told_written.result.tally c.in-Some.cost
    c.write-written.result c.told_written.result.told c.told_written.result.stage h m c.in-Some.ensures
    (λ best there costs. c.write-written.ensures I best h.thought there (costs ∙ sym same)) c.told_written.ensures.stage
    (c.told_written.ensures.tally ∙ rw same at c.with_best.ensures))

pub returns-clause-stage : goal.returns-clause-stage
returns-clause-stage c = λ I h m.
    let same : to_z w128 (of_z w128 c.in-Some.cost) ≡ c.in-Some.cost = search rules in
    best_stage I c.args.last.now c.args.taking c.args.id c.args.txn c.write-written.new.txn c.in-Some.cost c.write-written.result c.told_written.result.told
    c.told_written.result.stage c.two_marks_law.ensures.taken c.two_marks_law.ensures.read h m c.in-Some.ensures
    (λ best there costs. c.write-written.ensures I best h.thought there (costs ∙ sym same)) c.told_written.ensures.stage

pub returns-in_default-clause-turn : goal.returns-in_default-clause-turn
returns-in_default-clause-turn c = λ I lease old h m.
    inr (has_leased I lease c.args.last.now c.args.taking c.args.id c.args.txn old c.args.tally c.went_on.result.told
    (hand_of I lease (Some (thought_of c.args.last.now)) c.went_on.result.stage c.went_on.result.tally) m c.in_default.ensures (search rules) (search rules))
