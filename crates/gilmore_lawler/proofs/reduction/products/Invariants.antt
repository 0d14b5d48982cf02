use Rattle.gilmore_lawler.specs.Table.{IsTable, IsProductRow}
use Rattle.gilmore_lawler.proofs.reduction.products.Given as goal

abbrev pub invariant-loop-r : goal.invariant-loop-r
invariant-loop-r l = IsTable l.count l.r (IsProductRow l.width l.count l.a_rows l.b_rows) l.entries.items
