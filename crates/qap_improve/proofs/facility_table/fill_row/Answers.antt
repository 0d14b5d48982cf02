use Rattle.std.proofs.Common.{◌+◌, ◌*◌, ap, arith}
use Rattle.qap_improve.specs.Arrangement.{content}
use Rattle.qap_improve.proofs.FacilityTables.{IsTableBefore-more}
use Rattle.qap_improve.proofs.Readings.{reads_narrow}
use Rattle.qap_improve.proofs.facility_table.fill_row.Goals as goal

pub loop-j-preserved : goal.loop-j-preserved
loop-j-preserved c =
    let I = c.args.instance.now in
    let i = c.args.i in
    let j = c.loop-j.j in
    IsTableBefore-more I.size i j (i * c.size-n.result + j) (content I c.args.locations.now c.args.kind) c.loop-j.entries _
    c.requires.row (omega arith) (ap (λ n. i * n + j) c.size-n.ensures.value)
    (reads_narrow c.narrow.result c.entry_of.result _ c.narrow.ensures c.entry_of.ensures.value c.entry_of.ensures.range) c.loop-j.invariant
