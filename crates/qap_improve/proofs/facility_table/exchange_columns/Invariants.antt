use Rattle.qap_improve.proofs.FacilityTables.{HaveColumnsMoved}
use Rattle.qap_improve.proofs.facility_table.exchange_columns.Given as goal

abbrev pub invariant-loop-k : goal.invariant-loop-k
invariant-loop-k l = HaveColumnsMoved l.k l.n l.r l.s l.initial.table l.table
