use Rattle.std.proofs.Common.{ℕ, ◌<◌, ◌≤◌, [], get_or, map}
use Rattle.csv.specs.Records.{fields_of}
use Rattle.plan_table.specs.Marking.{IsUnmarked}
use Rattle.plan_table.proofs.marking.first_marked.Given as goal

abbrev pub invariant-loop-i : goal.invariant-loop-i
invariant-loop-i l = (j k : ℕ) → j < l.i → l.first ≤ k → k < l.end → IsUnmarked (get_or (get_or (map fields_of l.rows) j []) k [])
