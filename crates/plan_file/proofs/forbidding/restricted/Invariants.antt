use Rattle.std.proofs.Common.{length, map, string_bytes}
use Rattle.plan_table.specs.Trips.{name_at}
use Rattle.plan_file.specs.Choices.{IsRestricted}
use Rattle.plan_file.proofs.Lasts.{HoldsOfNone}
use Rattle.plan_file.proofs.forbidding.restricted.Given as goal

abbrev pub invariant-loop-k : goal.invariant-loop-k
invariant-loop-k l = HoldsOfNone (λ i. IsRestricted l.charging (map string_bytes l.places) (name_at (map string_bytes l.departments) i)) (length l.departments) l.k
