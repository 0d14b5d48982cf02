use Rattle.std.specs.Prelude.{◌≡◌}
use Rattle.part_search.proofs.seat.finish.Given as goal

abbrev pub invariant-loop : goal.invariant-loop
invariant-loop g l = l.worker.job ≡ l.fn.worker.job
