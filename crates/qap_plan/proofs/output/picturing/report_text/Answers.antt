use Rattle.std.proofs.Common.{◌≡◌, of_z, rules, to_z}
use Rattle.std.specs.Int.{w128}
use Rattle.qap_plan.proofs.output.picturing.report_text.Goals as goal

pub returns : goal.returns
returns c =
    let x = c.args.answer.now in
    let cost : to_z w128 (of_z w128 x.cost) ≡ x.cost = search rules in
    let bound : to_z w128 (of_z w128 x.bound) ≡ x.bound = search rules in
    (c.report_of-report.result, rw (cost, bound) at c.in_ok-text.ensures)
