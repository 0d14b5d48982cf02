use Rattle.std.proofs.Common.{length}
use Rattle.qap_search.specs.Runs.Answer.{IsAnswer}
use Rattle.qap_search.specs.Runs.Ran.{HoldsAnswer}
use Rattle.qap_search.specs.Law.Search.{whole}
use Rattle.qap_search.specs.declared.runs.answer.Answer.{Answer}
use Rattle.qap_search.proofs.RunLemmas.BehindAnswers.{ran_behind}
use Rattle.qap_search.proofs.RunLemmas.Outcomes.{told_of}
use Rattle.qap_search.proofs.runs.threads.solve.Goals as goal

pub returns-clause-answer : goal.returns-clause-answer
returns-clause-answer g c =
    let I = c.args.instance.now in
    let limit = c.args.crew.limit in
    let ended = c.in_ok-run.ensures.ended in
    told_of (whole I) c.args.crew.workers limit c.in_ok-run.run' (λ n a. IsAnswer I n limit a) c.answer_of.result ended c.in_ok-run.ensures.one_each (c.answer_of.ensures.answer (whole I).known ended)

pub returns-clause-ran : goal.returns-clause-ran
returns-clause-ran g c =
    let I = c.args.instance.now in
    let limit = c.args.crew.limit in
    let run = c.in_ok-run.run' in
    let ended = c.in_ok-run.ensures.ended in
    ran_behind (λ (a : Answer). a.reports.items) (HoldsAnswer I) (whole I) c.args.crew run (λ (a : Answer). IsAnswer I (length run.reports.items) limit a) c.answer_of.result c.in_ok-run.ensures.ran ended
    (c.answer_of.ensures.answer (whole I).known ended) c.answer_of.ensures.tells
