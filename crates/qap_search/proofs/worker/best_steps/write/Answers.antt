use Rattle.std.proofs.Common.{◌≡◌, to_z, of_z, ◌∙◌, sym}
use Rattle.std.specs.Int.{w128}
use Rattle.std.proofs.lemmas.Int.{to_z-of_z}
use Rattle.qap_search.proofs.worker.best_steps.write.Goals as goal

pub returns-else-taking : goal.returns-else-taking
returns-else-taking c = λ I best thought there costs.
    let same : to_z w128 (of_z w128 c.args.cost) ≡ c.args.cost = to_z-of_z w128 c.args.cost c.ranges.cost in
    rw c.if-taking.false (c.write_beside.ensures I best thought (costs ∙ sym same))
