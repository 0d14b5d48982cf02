use Rattle.std.proofs.Common.{◌≡◌, ◌∙◌, Option, ap, subst, sym}
use Rattle.std.specs.Prelude.{IfSome}
use Rattle.std.proofs.lemmas.Option.{IfSome_then}
use Rattle.qap_cost.specs.Placement.{Placement, root_of}
use Rattle.qap_plan.specs.Proofs.{Is}
use Rattle.qap_plan.proofs.Proofs.{claims_over, planned_below, makes_of}
use Rattle.qap_plan.proofs.commands.solve_instance.found.Goals as goal

pub returns-clause-found : goal.returns-clause-found
returns-clause-found g c =
    let h = c.in_ok-read.ensures.found in
    let told = c.with_proof-answer.ensures in
    let found = c.in_ok-read.read.1 in
    record {
      start = h.start;
      input = h.input;
      read = h.read;
      of_bytes = h.of_bytes;
      begins = h.begins;
      planned = planned_below c.in_ok-read.read.0 h.start found c.with_proof-answer.result.planned told.permutation told.cost told.bound h.planned;
    }

pub returns-clause-proof : goal.returns-clause-proof
returns-clause-proof g c =
    let I = c.in_ok-read.read.0 in
    let found = c.in_ok-read.read.1 in
    let told = c.with_proof-answer.ensures in
    let answer = c.with_proof-answer.result in
    let root : c.in_ok-root.root ≡ root_of I.size = c.in_ok-root.ensures.value ∙ ap root_of c.size.ensures.value in
    IfSome_then answer.proof told.proof (λ a left.
    makes_of I (Is (root_of I.size)) c.in_ok-root.root found answer.planned a root told.permutation told.cost
    (claims_over I (root_of I.size) found.permutation found.cost found.bound found.proof c.in_ok-read.ensures.proof) left)
