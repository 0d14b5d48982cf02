use Rattle.std.proofs.Common.{ap, ◌∙◌, arith}
use Rattle.std.specs.Prelude.{map}
use Rattle.qap_search.specs.Runs.Interleaving.{report_of}
use Rattle.qap_search.proofs.RunLemmas.ScheduledRuns.{Runs-step, Runs-whole}
use Rattle.qap_search.proofs.runs.schedule.follow.Goals as goal

pub loop-i-preserved : goal.loop-i-preserved
loop-i-preserved g c = record {
  runs = Runs-step c.args.instance.now 1000 _ c.args.steps.now c.loop-i.i _ _ _ c.loop-i-test.true c.loop-i.invariant.runs (rw c.in_ok-rows.ensures at c.in_ok-make.ensures.moves);
  ready = c.in_ok-make.ensures.ready;
}

pub returns : goal.returns
returns g c = record {
  end = record { posts = c.loop-i.posts.items; place = c.loop-i.room };
  runs = Runs-whole c.args.instance.now 1000 _ c.args.steps.now c.loop-i.i _ (omega arith) c.loop-i.invariant.runs;
  space = c.into_space.ensures.value;
  reports = c.in_ok-reports.ensures ∙ ap (map report_of) c.deref.ensures.value;
  cut_tree = c.requires.law.is_cut_tree _ _ c.into_space.ensures.lawful;
}
