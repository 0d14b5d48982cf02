use Rattle.std.proofs.Common.{ap, ◌∙◌, arith, get_or}
use Rattle.std.specs.Prelude.{pos}
use Rattle.gilmore_lawler.proofs.DotBlocks.{narrowed}
use Rattle.gilmore_lawler.specs.Ranking.{entry_with_column}
use Rattle.gilmore_lawler.specs.Table.{matrix_of}
use Rattle.gilmore_lawler.proofs.Rankings.{entries_more, with_column}
use Rattle.gilmore_lawler.proofs.ranking.push_entries.Goals as goal

pub loop-j-preserved : goal.loop-j-preserved
loop-j-preserved c =
    let j = c.loop-j.j in
    let value = get_or c.row_of-entries.result.now j (pos 0) in
    let row = c.row_of-entries.ensures.row in
    entries_more (entry_with_column c.args.instance.now.size (matrix_of c.args.instance.now c.args.side) c.args.i) _ _ _ _ j
    c.loop-j.invariant c.in_ok-push.ensures.items
    (ap (with_column j) (narrowed value c.narrow.result (c.row_of-entries.ensures.range.each j (omega (arith, row.count, c.size-n.ensures.value))) c.narrow.ensures ∙ row.entries j (omega (arith, c.size-n.ensures.value))))
