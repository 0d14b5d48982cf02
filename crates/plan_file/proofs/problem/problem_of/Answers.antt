use Rattle.std.proofs.Common.{◌≡◌, ◌∙◌, arith, length, rules}
use Rattle.plan_file.proofs.Fillings.{problem_made}
use Rattle.plan_file.proofs.problem.problem_of.Goals as goal

pub returns : goal.returns
returns c =
    let flows = c.args.flows.now in
    let distances = c.args.distances.now in
    let departments : c.len-departments.result ≡ length flows.names.items = search rules in
    let places : c.len-places.result ≡ length distances.names.items = search rules in
    let copied = c.in_ok-b.ensures.items ∙ c.deref-2.ensures.value in
    problem_made c.len-departments.result (length flows.names.items) c.deref.result.now flows.entries.items c.len-places.result (length distances.names.items) c.in_ok-a.a.items c.in_ok-b.b.items distances.entries.items c.in-Ok.instance departments c.deref.ensures.value places copied (omega arith) c.in_ok-a.ensures c.in-Ok.ensures.0 c.in-Ok.ensures.1
