use Rattle.std.proofs.Common.{map}
use Rattle.pair_duals.proofs.KeptRows.{AreKept-copied}
use Rattle.pair_duals.proofs.kept.keep_row.Goals as goal

pub returns-then-pair : goal.returns-then-pair
returns-then-pair g c =
    let value = g.N.Number.value in
    let D = c.args.duals.now in
    AreKept-copied c.args.instance.now D c.free.result c.args.pair.now.0 c.args.pair.now.1 c.args.pair.now.2 (map value c.args.table.now) (map value c.copy_row.new.table)
    c.free.ensures.value c.requires.i_in c.requires.j_in c.requires.l_in c.if-pair.true c.requires.before c.copy_row.ensures
