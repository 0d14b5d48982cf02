use Rattle.std.proofs.Common.{◌≡◌, ◌∙◌, arith}
use Rattle.std.specs.Arc.{arc_value}
use Rattle.std.proofs.lemmas.List.Elements.{All-push, All-same}
use Rattle.part_search.specs.Worker.{Job, job_of}
use Rattle.part_search.proofs.schedule.posts_for.Goals as goal

pub loop-share-preserved : goal.loop-share-preserved
loop-share-preserved g c =
    let P = λ (J : Job). J ≡ job_of (arc_value c.args.task.now.ground.now) 1000 in
    record {
      count = omega (arith, c.in_ok-push.ensures.len, c.in-Some.ensures.len, c.loop-share.invariant.count);
      job = All-same P c.push.new.self.items _ c.in_ok-push.ensures.items (All-push P c.loop-share.posts.items c.new.result c.loop-share.invariant.job (c.new.ensures ∙ c.in_ok-new_worker.ensures));
    }
