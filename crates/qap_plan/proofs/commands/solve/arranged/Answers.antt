use Rattle.std.proofs.Common.{List, Option, subst, ℕ}
use Rattle.std.proofs.lemmas.Option.{IfSome_then}
use Rattle.plan_search.specs.Keeping.{IsKept}
use Rattle.qap_plan.specs.Proofs.{HasSame}
use Rattle.qap_plan.proofs.Proofs.{claims_kept, kept_below, makes_of}
use Rattle.qap_plan.proofs.commands.solve.arranged.Goals as goal

pub returns-clause-kept : goal.returns-clause-kept
returns-clause-kept g c =
    let P = c.args.problem.now in
    let told = c.with_proof-answer.ensures in
    let kept = subst (λ (o : Option (List ℕ)). IsKept P.instance P.fixed o c.in_ok-found.found.permutation c.in_ok-found.found.cost c.in_ok-found.found.bound) c.in_ok-first.ensures c.in_ok-found.ensures.kept in
    kept_below P.instance P.fixed c.args.start.now c.in_ok-found.found c.with_proof-answer.result.planned told.permutation told.cost told.bound kept

pub returns-clause-proof : goal.returns-clause-proof
returns-clause-proof g c =
    let P = c.args.problem.now in
    let found = c.in_ok-found.found in
    let told = c.with_proof-answer.ensures in
    let answer = c.with_proof-answer.result in
    IfSome_then answer.proof told.proof (λ a left.
    makes_of P.instance (HasSame P.fixed) c.in_ok-root.root found answer.planned a c.in_ok-root.ensures.same told.permutation told.cost
    (claims_kept P.instance P.fixed found.permutation found.cost found.bound found.proof c.in_ok-found.ensures.proof) left)
