use Rattle.std.proofs.Common.{◌≡◌, ◌<◌, ◌∙◌, length, rules}
use Rattle.std.specs.Arc.{arc_value}
use Rattle.std.proofs.lemmas.List.Elements.{All-set}
use Rattle.part_search.specs.Worker.{Job, job_of}
use Rattle.part_search.proofs.schedule.lose.Goals as goal

pub returns-in_ok-new_worker-clause-job : goal.returns-in_ok-new_worker-clause-job
returns-in_ok-new_worker-clause-job g c =
    let P = λ (J : Job). J ≡ job_of (arc_value c.args.task.now.ground.now) 1000 in
    let below : c.args.worker < length c.args.posts.now.items = search rules in
    All-set P c.args.posts.now.items c.args.worker c.put.new.self (c.put.ensures ∙ c.index_mut.ensures.value ∙ c.requires.job c.args.worker c.index_mut.result.now below) c.requires.job
