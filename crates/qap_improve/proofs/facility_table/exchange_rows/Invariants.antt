use Rattle.qap_improve.proofs.FacilityTables.{HaveRowsMoved}
use Rattle.qap_improve.proofs.facility_table.exchange_rows.Given as goal

abbrev pub invariant-loop-k : goal.invariant-loop-k
invariant-loop-k l = HaveRowsMoved l.k l.n l.r l.s l.initial.table l.table
