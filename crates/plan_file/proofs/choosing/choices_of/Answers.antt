use Rattle.std.proofs.lemmas.Result.{err_from_is_err_and}
use Rattle.toml.specs.View.{table_view, view}
use Rattle.plan_file.proofs.Faults.{fault_of_choosing}
use Rattle.plan_file.proofs.choosing.choices_of.Goals as goal

pub returns-in_err-choices_at-clause-refused : goal.returns-in_err-choices_at-clause-refused
returns-in_err-choices_at-clause-refused c =
    let p = err_from_is_err_and c.from_residual.result c.from_residual.ensures.1 in
    rw (p.1, p.2) (fault_of_choosing (table_view c.args.table.now) c.args.key.now c.in_err-choices_at.field-0.0 (view c.in-Some.value.now, c.in-Some.ensures) c.in_err-choices_at.ensures.refused)
