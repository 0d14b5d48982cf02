use Rattle.proof_check.specs.Rows.{HasRows, lists_of}
use Rattle.proof_check.proofs.RowLists.{HasPassed}
use Rattle.proof_check.proofs.rows.read_rows.Given as goal

abbrev pub invariant-loop : goal.invariant-loop
invariant-loop g l =
    HasRows l.width l.counter (lists_of l.rows.items) l.fn.reader l.reader
    × HasPassed l.m l.counter (lists_of l.rows.items) l.fn.reader.left l.reader.left
