use Rattle.std.proofs.Common.{◌≡◌, ◌++◌, length}
use Rattle.gilmore_lawler.specs.Table.{product_row}
use Rattle.gilmore_lawler.proofs.reduction.push_products.Given as goal

abbrev pub invariant-loop-c : goal.invariant-loop-c
invariant-loop-c l = l.entries.items ≡ l.fn.entries.items ++ product_row (length l.row) l.c l.row l.others
