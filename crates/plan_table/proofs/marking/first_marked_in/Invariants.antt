use Rattle.std.proofs.Common.{ℕ, ◌<◌, ◌≤◌}
use Rattle.csv.specs.Records.{fields_of}
use Rattle.plan_table.specs.Marking.{IsUnmarked}
use Rattle.plan_table.specs.Table.{word_at}
use Rattle.plan_table.proofs.marking.first_marked_in.Given as goal

abbrev pub invariant-loop-k : goal.invariant-loop-k
invariant-loop-k l = (j : ℕ) → l.first ≤ j → j < l.k → IsUnmarked (word_at (fields_of l.row) j)
