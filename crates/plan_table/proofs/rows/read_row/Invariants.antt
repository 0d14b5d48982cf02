use Rattle.csv.specs.Records.{fields_of}
use Rattle.plan_table.proofs.RowLists.{HasCells}
use Rattle.plan_table.proofs.rows.read_row.Given as goal

abbrev pub invariant-loop-column : goal.invariant-loop-column
invariant-loop-column l = HasCells l.reading l.i (fields_of l.row) l.column l.initial.decimals.items l.decimals.items
