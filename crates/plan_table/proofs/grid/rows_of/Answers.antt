use Rattle.std.proofs.Common.{map, subst}
use Rattle.std.specs.String.{string_bytes}
use Rattle.plan_table.specs.Grid.{AreAmong}
use Rattle.plan_table.proofs.grid.rows_of.Goals as goal

pub returns-clause-known : goal.returns-clause-known
returns-clause-known c = subst (λ l. AreAmong (map string_bytes l) (map string_bytes c.args.departments.now)) c.deref-2.ensures.value c.in_ok-check_rows.ensures
