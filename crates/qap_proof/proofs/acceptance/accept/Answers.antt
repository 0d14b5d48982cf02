use Rattle.std.proofs.Common.{◌≡◌, ℤ, subst, to_z, of_z, rules}
use Rattle.std.specs.Int.{w128}
use Rattle.qap_proof.proofs.Verdicts.{IsSo-shown, ShowsVerdict-proved}
use Rattle.qap_proof.specs.Acceptance.{IsVerdictOf}
use Rattle.qap_proof.specs.Claim.{claim_of}
use Rattle.qap_proof.proofs.acceptance.accept.Goals as goal

pub returns-clause-verdict : goal.returns-clause-verdict
returns-clause-verdict c =
    let head = c.in_ok-head.head in
    let verdict = c.verdict_of.result in
    let cost_is : to_z w128 (of_z w128 head.cost) ≡ head.cost = search rules in
    let bound_is : to_z w128 (of_z w128 head.bound) ≡ head.bound = search rules in
    ShowsVerdict-proved c.args.instance.now c.args.text.now head.root head.cost head.bound verdict c.in_ok-head.ensures.proved
    (λ p t.
    subst (λ (z : ℤ). IsVerdictOf (claim_of head.root z head.bound p t) verdict) cost_is
    (subst (λ (z : ℤ). IsVerdictOf (claim_of head.root (to_z w128 (of_z w128 head.cost)) z p t) verdict) bound_is (c.verdict_of.ensures.says p t)))

pub returns-clause-so : goal.returns-clause-so
returns-clause-so c =
    IsSo-shown c.args.instance.now c.args.text.now c.verdict_of.result c.in_ok-head.ensures.instance (returns-clause-verdict c)
