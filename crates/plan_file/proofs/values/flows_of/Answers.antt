use Rattle.plan_file.proofs.values.flows_of.Goals as goal

pub returns-in-Some-None-Some-clause-refused : goal.returns-in-Some-None-Some-clause-refused
returns-in-Some-None-Some-clause-refused c =
    let names = rw c.in-Some-None-Some.is-2 at c.in_ok-departments.ensures.names in
    let list = rw c.in-Some-None-Some.is-1 at c.in_ok-list.ensures.text in
    ((_, names.0), list)
