use Rattle.std.proofs.lemmas.Result.{err_from_is_err_and}
use Rattle.toml.specs.Errors.{IsMemory}
use Rattle.toml.specs.View.{table_view}
use Rattle.plan_file.proofs.Faults.{fault_of_syntax, fault_of_table, is_table}
use Rattle.plan_file.proofs.Soundness.{sound_distances, sound_flows}
use Rattle.plan_file.proofs.plan.read_plan.Goals as goal

pub returns-clause-sound : goal.returns-clause-sound
returns-clause-sound c = record {
  flows = sound_flows (table_view c.in-Ok.table) c.in_ok-flows.flows c.in_ok-flows.ensures.flows;
  distances = sound_distances (table_view c.in-Ok.table) c.in_ok-distances.distances c.in_ok-distances.ensures.distances;
}

pub returns-clause-plan : goal.returns-clause-plan
returns-clause-plan c = record {
  members = table_view c.in-Ok.table;
  read = is_table c.args.text.now (table_view c.in-Ok.table) c.in-Ok.ensures.ok;
  known = c.in_ok-check_keys.ensures.known;
  flows = c.in_ok-flows.ensures.flows;
  distances = c.in_ok-distances.ensures.distances;
  rules = c.in_ok-rules.ensures.rules;
  fixed = c.in_ok-fixed.ensures.fixed;
  charging = c.in_ok-charging.ensures.charging;
  drawing = c.in_ok-drawing.ensures.drawing;
}

pub returns-in-Err-clause-refused : goal.returns-in-Err-clause-refused
returns-in-Err-clause-refused c =
    fault_of_syntax c.args.text.now (IsMemory c.in-Err.error) c.syntax_error.result c.syntax_error.ensures.syntax c.syntax_error.ensures.memory c.in-Err.ensures.refused

pub returns-in_err-check_keys-clause-refused : goal.returns-in_err-check_keys-clause-refused
returns-in_err-check_keys-clause-refused c =
    let p = err_from_is_err_and c.from_residual.result c.from_residual.ensures.1 in
    let is = is_table c.args.text.now (table_view c.in-Ok.table) c.in-Ok.ensures.ok in
    rw (p.1, p.2) (fault_of_table c.args.text.now (table_view c.in-Ok.table) c.in_err-check_keys.field-0.0 is c.in_err-check_keys.ensures.refused)

pub returns-in_err-flows-clause-refused : goal.returns-in_err-flows-clause-refused
returns-in_err-flows-clause-refused c =
    let p = err_from_is_err_and c.from_residual-in_err-flows.result c.from_residual-in_err-flows.ensures.1 in
    let is = is_table c.args.text.now (table_view c.in-Ok.table) c.in-Ok.ensures.ok in
    rw (p.1, p.2) (fault_of_table c.args.text.now (table_view c.in-Ok.table) c.in_err-flows.field-0.0 is c.in_err-flows.ensures.refused)

pub returns-in_err-distances-clause-refused : goal.returns-in_err-distances-clause-refused
returns-in_err-distances-clause-refused c =
    let p = err_from_is_err_and c.from_residual-in_err-distances.result c.from_residual-in_err-distances.ensures.1 in
    let is = is_table c.args.text.now (table_view c.in-Ok.table) c.in-Ok.ensures.ok in
    rw (p.1, p.2) (fault_of_table c.args.text.now (table_view c.in-Ok.table) c.in_err-distances.field-0.0 is c.in_err-distances.ensures.refused)

pub returns-in_err-rules-clause-refused : goal.returns-in_err-rules-clause-refused
returns-in_err-rules-clause-refused c =
    let p = err_from_is_err_and c.from_residual-in_err-rules.result c.from_residual-in_err-rules.ensures.1 in
    let is = is_table c.args.text.now (table_view c.in-Ok.table) c.in-Ok.ensures.ok in
    rw (p.1, p.2) (fault_of_table c.args.text.now (table_view c.in-Ok.table) c.in_err-rules.field-0.0 is c.in_err-rules.ensures.refused)

pub returns-in_err-fixed-clause-refused : goal.returns-in_err-fixed-clause-refused
returns-in_err-fixed-clause-refused c =
    let p = err_from_is_err_and c.from_residual-in_err-fixed.result c.from_residual-in_err-fixed.ensures.1 in
    let is = is_table c.args.text.now (table_view c.in-Ok.table) c.in-Ok.ensures.ok in
    rw (p.1, p.2) (fault_of_table c.args.text.now (table_view c.in-Ok.table) c.in_err-fixed.field-0.0 is c.in_err-fixed.ensures.refused)

pub returns-in_err-drawing-clause-refused : goal.returns-in_err-drawing-clause-refused
returns-in_err-drawing-clause-refused c =
    let p = err_from_is_err_and c.from_residual-in_err-drawing.result c.from_residual-in_err-drawing.ensures.1 in
    let is = is_table c.args.text.now (table_view c.in-Ok.table) c.in-Ok.ensures.ok in
    rw (p.1, p.2) (fault_of_table c.args.text.now (table_view c.in-Ok.table) c.in_err-drawing.field-0.0 is c.in_err-drawing.ensures.refused)

pub returns-in_err-charging-clause-refused : goal.returns-in_err-charging-clause-refused
returns-in_err-charging-clause-refused c =
    let p = err_from_is_err_and c.from_residual-in_err-charging.result c.from_residual-in_err-charging.ensures.1 in
    let is = is_table c.args.text.now (table_view c.in-Ok.table) c.in-Ok.ensures.ok in
    rw (p.1, p.2) (fault_of_table c.args.text.now (table_view c.in-Ok.table) c.in_err-charging.field-0.0 is c.in_err-charging.ensures.refused)
