use Rattle.std.proofs.Common.{map, string_bytes, subst}
use Rattle.plan_table.specs.Grid.{AreAmong}
use Rattle.plan_table.specs.Names.{HasName}
use Rattle.plan_file.proofs.forbidding.check_choice.Goals as goal

pub returns-in-None-clause-department : goal.returns-in-None-clause-department
returns-in-None-clause-department c = subst (HasName (map string_bytes c.args.departments.now)) c.as_str.ensures.value (c.has_name.ensures.0 c.if-not-has_name.false)

pub returns-in-None-clause-places : goal.returns-in-None-clause-places
returns-in-None-clause-places c = subst (λ l. AreAmong (map string_bytes l) (map string_bytes c.args.places.now)) c.deref.ensures.value c.in-None.ensures
