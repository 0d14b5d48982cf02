use Rattle.std.proofs.Common.{map, subst}
use Rattle.std.specs.String.{string_bytes}
use Rattle.plan_table.specs.Grid.{AreAmong}
use Rattle.plan_table.proofs.grid.columns_of.Goals as goal

pub returns-clause-known : goal.returns-clause-known
returns-clause-known c = subst (λ l. AreAmong (map string_bytes l) (map string_bytes c.args.places.now)) c.deref-2.ensures.value c.in_ok-check_columns.ensures

pub returns-clause-places : goal.returns-clause-places
returns-clause-places c = subst (λ l. AreAmong (map string_bytes c.args.places.now) (map string_bytes l)) c.deref-3.ensures.value c.in_ok-check_places.ensures
