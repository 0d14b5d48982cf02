use Rattle.std.proofs.Common.{arith}
use Rattle.qap_improve.proofs.FacilityTables.{HaveRowsMoved-more}
use Rattle.qap_improve.proofs.facility_table.exchange_rows.Goals as goal

pub loop-k-preserved : goal.loop-k-preserved
loop-k-preserved c =
    HaveRowsMoved-more c.loop-k.k c.args.n c.args.r c.args.s c.args.table.now c.loop-k.table c.swap.new.self
    c.requires.first c.requires.second c.requires.two (omega arith) c.swap.ensures.after c.loop-k.invariant
