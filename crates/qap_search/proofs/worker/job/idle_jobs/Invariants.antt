use Rattle.std.specs.Prelude.{All}
use Rattle.qap_search.specs.Worker.Standing.{IsIdle}
use Rattle.qap_search.proofs.worker.job.idle_jobs.Given as goal

abbrev pub invariant-loop : goal.invariant-loop
invariant-loop l = All IsIdle l.jobs.items
