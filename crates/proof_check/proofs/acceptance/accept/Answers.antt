use Rattle.std.proofs.Common.{◌≡◌, ◌∙◌, List, ℕ, ℤ, of_z, rules, subst, sym, to_z}
use Rattle.std.specs.Prelude.{Option}
use Rattle.std.specs.Int.{w128}
use Rattle.std.proofs.lemmas.Result.{err_from_is_err_and}
use Rattle.qap_cost.specs.Range.{IsLimited}
use Rattle.qap_lines.specs.Bound.{IsBoundFor}
use Rattle.proof_tree.specs.Claim.{pair_claim}
use Rattle.proof_check.specs.Acceptance.{IsPairVerdictOf, ReadsLeaves}
use Rattle.proof_check.proofs.Accepting.{ReadsLeaves-copied, ReadsVerdict-leaves, RefusesNoProof-pairs}
use Rattle.proof_check.proofs.acceptance.accept.Goals as goal

pub verdict_of-requires-clause-cost : goal.verdict_of-requires-clause-cost
verdict_of-requires-clause-cost g c =
    let s = c.in_ok-checked.checked in
    let cost_is : to_z w128 (of_z w128 s.cost) ≡ s.cost = search rules in
    subst IsLimited (sym cost_is) c.in_ok-checked.ensures.leaves.is_text.proof.cost

pub verdict_of-requires-clause-bound : goal.verdict_of-requires-clause-bound
verdict_of-requires-clause-bound g c =
    let s = c.in_ok-checked.checked in
    let cost_is : to_z w128 (of_z w128 s.cost) ≡ s.cost = search rules in
    let bound_is : to_z w128 (of_z w128 s.bound) ≡ s.bound = search rules in
    subst (λ (z : ℤ). IsBoundFor z (to_z w128 (of_z w128 s.bound))) (sym cost_is) (subst (IsBoundFor s.cost) (sym bound_is) c.in_ok-checked.ensures.leaves.is_text.proof.bound)

pub returns-clause-verdict : goal.returns-clause-verdict
returns-clause-verdict g c =
    let s = c.in_ok-checked.checked in
    let v = c.verdict_of.result in
    let cost_is : to_z w128 (of_z w128 s.cost) ≡ s.cost = search rules in
    let bound_is : to_z w128 (of_z w128 s.bound) ≡ s.bound = search rules in
    let I = c.args.instance.now in
    let read = ReadsLeaves-copied I _ _ s.root s.cost s.bound s.bound s.permutation s.leaves.items c.in_ok-checked.ensures.leaves in
    let known = subst (λ (o : Option (List ℕ)). ReadsLeaves I o s.root s.cost s.bound s.bound s.leaves.items) c.new-reader.ensures.left read in
    ReadsVerdict-leaves I (g.R.Read.remaining c.args.reader.now) s.root s.cost s.bound s.bound s.leaves.items v known
    (λ p t.
    subst (λ (z : ℤ). IsPairVerdictOf (pair_claim s.root z s.bound p t) v) cost_is
    (subst (λ (z : ℤ). IsPairVerdictOf (pair_claim s.root (to_z w128 (of_z w128 s.cost)) z p t) v) bound_is (c.verdict_of.ensures p t)))

pub returns-in_err-checked-clause-refused : goal.returns-in_err-checked-clause-refused
returns-in_err-checked-clause-refused g c =
    let e = err_from_is_err_and c.from_residual.result c.from_residual.ensures.1 in
    let I = c.args.instance.now in
    rw (e.1, e.2) (RefusesNoProof-pairs I _ _ (λ text is. (c.in_err-checked.ensures {u = tt}).fault text (c.new-reader.ensures.left ∙ is)))

pub returns-in_err-checked-clause-fault : goal.returns-in_err-checked-clause-fault
returns-in_err-checked-clause-fault g c =
    let e = err_from_is_err_and c.from_residual.result c.from_residual.ensures.1 in
    rw (e.1, e.2) (λ text is. (c.in_err-checked.ensures {u = tt}).fault text (c.new-reader.ensures.left ∙ is))
