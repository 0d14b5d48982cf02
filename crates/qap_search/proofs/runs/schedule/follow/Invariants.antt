use Rattle.std.specs.Prelude.{take}
use Rattle.qap_search.specs.Runs.Interleaving.{AreReady, Runs, start_of}
use Rattle.qap_search.proofs.runs.schedule.follow.Given as goal

abbrev pub invariant-loop-i : goal.invariant-loop-i
invariant-loop-i g l = record {
  runs : Runs l.instance 1000 (start_of l.instance 1000 l.fn.workers) (take l.i l.steps) (record { posts = l.posts.items; place = l.room });
  ready : AreReady l.posts.items;
}
