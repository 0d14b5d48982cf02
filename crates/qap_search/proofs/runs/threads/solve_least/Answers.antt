use Rattle.std.proofs.Common.{length}
use Rattle.qap_search.specs.Runs.Answer.{IsLeastFrom}
use Rattle.qap_search.specs.Runs.Ran.{HoldsLeast}
use Rattle.qap_search.specs.Law.Search.{whole}
use Rattle.qap_search.specs.declared.runs.answer.Least.{Least}
use Rattle.qap_search.proofs.RunLemmas.BehindAnswers.{ran_behind}
use Rattle.qap_search.proofs.RunLemmas.Outcomes.{least_told, told_of}
use Rattle.qap_search.proofs.runs.threads.solve_least.Goals as goal

pub returns-clause-answer : goal.returns-clause-answer
returns-clause-answer g c =
    let I = c.args.instance.now in
    let workers = c.args.crew.workers in
    let limit = c.args.crew.limit in
    let ended = c.in_ok-run.ensures.ended in
    least_told I workers limit c.least_of.result
    (told_of (whole I) workers limit c.in_ok-run.run' (λ n a. IsLeastFrom (whole I) n limit a) c.least_of.result ended c.in_ok-run.ensures.one_each (c.least_of.ensures.answer (whole I).known ended))

pub returns-clause-ran : goal.returns-clause-ran
returns-clause-ran g c =
    let S = whole c.args.instance.now in
    let limit = c.args.crew.limit in
    let run = c.in_ok-run.run' in
    let ended = c.in_ok-run.ensures.ended in
    ran_behind (λ (a : Least). a.reports.items) HoldsLeast S c.args.crew run (λ (a : Least). IsLeastFrom S (length run.reports.items) limit a) c.least_of.result c.in_ok-run.ensures.ran ended
    (c.least_of.ensures.answer S.known ended) c.least_of.ensures.tells
