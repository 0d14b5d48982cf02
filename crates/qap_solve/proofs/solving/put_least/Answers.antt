use Rattle.std.proofs.Common.{◌≡◌, rules, to_z, of_z}
use Rattle.std.specs.Int.{w128}
use Rattle.qap_text.specs.WrittenSolution.{solution_text}
use Rattle.qap_solve.proofs.Texts.{least_text}
use Rattle.qap_solve.proofs.solving.put_least.Goals as goal

pub returns : goal.returns
returns g c = λ I nodes found.
    let a = c.args.found.now in
    let same : to_z w128 (of_z w128 a.cost) ≡ a.cost = search rules in
    (solution_text a.cost a.permutation, least_text I nodes a.permutation a.cost found, rw same at c.put_solution.ensures)
