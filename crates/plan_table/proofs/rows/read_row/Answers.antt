use Rattle.std.proofs.Common.{◌≡◌, ◌++◌, ◌∷◌, [], arith, rules}
use Rattle.csv.specs.Records.{fields_of}
use Rattle.plan_table.proofs.RowLists.{HasCells-all, HasCells-more, HasCells-none}
use Rattle.plan_table.proofs.rows.read_row.Goals as goal

pub loop-column-init : goal.loop-column-init
loop-column-init c = HasCells-none c.args.reading c.args.i (fields_of c.args.row.now) c.args.decimals.now.items

pub loop-column-preserved : goal.loop-column-preserved
loop-column-preserved c =
    let pushed : c.push.new.self.items ≡ c.loop-column.decimals.items ++ c.in_ok-decimal.decimal ∷ [] = search rules in
    HasCells-more c.args.reading c.args.i (fields_of c.args.row.now) c.loop-column.column c.args.decimals.now.items c.loop-column.decimals.items _ c.in_ok-decimal.decimal c.loop-column.invariant c.in_ok-decimal.ensures pushed

pub returns : goal.returns
returns c name named =
    HasCells-all c.args.reading c.args.i name (fields_of c.args.row.now) c.loop-column.column c.args.count c.args.decimals.now.items c.loop-column.decimals.items c.loop-column.invariant (omega arith) named c.in_ok-check_end.ensures
