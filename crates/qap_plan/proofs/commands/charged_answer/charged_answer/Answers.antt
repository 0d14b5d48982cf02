use Rattle.std.proofs.Common.{rules}
use Rattle.std.specs.Int.{w128}
use Rattle.std.specs.Prelude.{FitsSigned}
use Rattle.std.proofs.lemmas.Int.{to_z-of_z}
use Rattle.qap_plan.proofs.commands.charged_answer.charged_answer.Goals as goal

pub returns-clause-answer : goal.returns-clause-answer
returns-clause-answer g c =
    let found = c.in_ok-found.found.planned in
    let cost : FitsSigned w128 found.cost = search rules in
    let bound : FitsSigned w128 found.bound = search rules in
    record {
      start = c.in_ok-first.first;
      begins = c.in_ok-first.ensures.requested;
      charged = c.in_ok-found.ensures.charged;
      parts = c.parts_of-parts.ensures;
      told = simp to_z-of_z at c.in_ok-text.ensures;
    }
