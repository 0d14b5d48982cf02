use Rattle.std.specs.Prelude.{◌+◌, ◌*◌}
use Rattle.qap_search.proofs.certificate.closing_threads.+halves.Given as goal

abbrev pub decreases-close_halves : goal.decreases-close_halves
decreases-close_halves g l = 2 * l.halvings

abbrev pub decreases-first : goal.decreases-first
decreases-first g l = 2 * l.fewer + 1

abbrev pub decreases-second : goal.decreases-second
decreases-second g l = 2 * l.fewer + 1
