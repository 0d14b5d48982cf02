use Rattle.std.proofs.Common.{length, map, string_bytes}
use Rattle.plan_file.specs.Charges.{HasRow}
use Rattle.plan_file.proofs.Lasts.{HoldsOfNone}
use Rattle.plan_file.proofs.charges.payers.Given as goal

abbrev pub invariant-loop-k : goal.invariant-loop-k
invariant-loop-k l = HoldsOfNone (HasRow (map string_bytes l.rows) (map string_bytes l.departments)) (length l.departments) l.k
