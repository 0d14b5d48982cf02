use Rattle.std.proofs.Common.{ℕ, ◌<◌, ◌≤◌}
use Rattle.csv.specs.Records.{fields_of}
use Rattle.plan_table.specs.Marking.{IsWritten}
use Rattle.plan_table.specs.Table.{word_at}
use Rattle.plan_table.proofs.marking.is_row_written.Given as goal

abbrev pub invariant-loop-k : goal.invariant-loop-k
invariant-loop-k l = (j : ℕ) → l.first ≤ j → j < l.k → IsWritten l.mark (word_at (fields_of l.row) j)
