use Rattle.std.proofs.Common.{◌≡◌, ℤ, inl, inr, ⊎_elim, subst, to_z, of_z, arith}
use Rattle.std.specs.Int.{w128}
use Rattle.std.specs.Prelude.{Option}
use Rattle.std.proofs.lemmas.Result.{err_from_is_err_and}
use Rattle.qap_lines.proofs.Numerals.{reads_wide}
use Rattle.qap_proof.proofs.Verdicts.{IsToldOfPerm, ProvesFor-told, HasFault-told}
use Rattle.qap_proof.specs.Tree.{whole}
use Rattle.qap_proof.specs.Walk.{EndsBehindTree, IsToldOf}
use Rattle.qap_proof.specs.declared.error.ProofError.{ProofError}
use Rattle.qap_proof.proofs.acceptance.proved_head.Goals as goal

pub returns-in_err-walk_to_end-clause-proved : goal.returns-in_err-walk_to_end-clause-proved
returns-in_err-walk_to_end-clause-proved c =
    let e = c.in_err-walk_to_end.field-0.0 in
    let p = err_from_is_err_and c.from_residual-in_err-walk_to_end.result c.from_residual-in_err-walk_to_end.ensures.1 in
    rw (p.1, p.2) (⊎_elim inl (λ fault. inr (inl (c.in_ok-head.ensures.fault e fault))) (c.in_err-walk_to_end.ensures {u = tt}).judged)

pub returns-in-None-clause-proved : goal.returns-in-None-clause-proved
returns-in-None-clause-proved c =
    let I = c.args.instance.now in
    let head = c.in_ok-head.head in
    let cost_is : to_z w128 (of_z w128 head.cost) ≡ head.cost = reads_wide head.cost (omega (arith, c.in_ok-head.ensures.cost)) in
    let misfit = subst (λ (z : ℤ). IsToldOfPerm I head.perm z c.perm_misfit-misfit.result) cost_is c.perm_misfit-misfit.ensures in
    let told = subst (λ (o : Option ProofError). EndsBehindTree head.root head.rest.now (IsToldOf I head.bound (whole head.root) head.line c.perm_misfit-misfit.result o)) c.in-None.is c.in_ok-walk_to_end.ensures.judged in
    ProvesFor-told I c.args.text.now head.root head.cost head.bound head.perm head.line head.rest.now c.perm_misfit-misfit.result c.in_ok-head.ensures misfit told

pub returns-clause-proved : goal.returns-clause-proved
returns-clause-proved c =
    let I = c.args.instance.now in
    let head = c.in_ok-head.head in
    let e = c.in-Some.fault in
    let cost_is : to_z w128 (of_z w128 head.cost) ≡ head.cost = reads_wide head.cost (omega (arith, c.in_ok-head.ensures.cost)) in
    let misfit = subst (λ (z : ℤ). IsToldOfPerm I head.perm z c.perm_misfit-misfit.result) cost_is c.perm_misfit-misfit.ensures in
    let told = subst (λ (o : Option ProofError). EndsBehindTree head.root head.rest.now (IsToldOf I head.bound (whole head.root) head.line c.perm_misfit-misfit.result o)) c.in-Some.is c.in_ok-walk_to_end.ensures.judged in
    inr (inr (HasFault-told I c.args.text.now head.root head.cost head.bound head.perm head.line head.rest.now c.perm_misfit-misfit.result e c.in_ok-head.ensures misfit told))
