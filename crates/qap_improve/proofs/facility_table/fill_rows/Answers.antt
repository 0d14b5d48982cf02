use Rattle.std.proofs.Common.{◌*◌, arith}
use Rattle.std.proofs.lemmas.Nat.{mul-le}
use Rattle.qap_improve.specs.Arrangement.{content}
use Rattle.qap_improve.proofs.FacilityTables.{IsTableBefore-all}
use Rattle.qap_improve.proofs.facility_table.fill_rows.Goals as goal

pub returns : goal.returns
returns c =
    let I = c.args.instance.now in
    let n = I.size in
    let end = c.size-i-end.ensures.value in
    IsTableBefore-all (c.loop-i.i * n) n (content I c.args.locations.now c.args.kind) c.loop-i.entries
    (mul-le n n c.loop-i.i n (omega (arith, end, c.loop-i-test.false)) (omega arith)) c.loop-i.invariant
