use Rattle.std.proofs.Common.{◌∙◌, ◌≡◌, ℤ, inl, inr, of_z, refl, rules, subst, sym, to_z}
use Rattle.std.proofs.lemmas.Bool.{false≢true}
use Rattle.std.proofs.lemmas.Result.{err_from_is_err_and}
use Rattle.std.specs.Int.{w128}
use Rattle.qap_cost.specs.Instance.{Problem}
use Rattle.qap_proof.specs.Cover.{Establishes, IsAdmitted}
use Rattle.proof_versions.proofs.Verdicts.{Establishes-pairs, HasPairPart-admitted, adds-first}
use Rattle.proof_versions.specs.Versions.{RefusesNoPairs}
use Rattle.proof_versions.proofs.adding.add_part.Goals as goal

pub admit-requires : goal.admit-requires
admit-requires c =
    let I = c.instance.result.now in
    let part = c.in_ok-part.part in
    let cost_is : to_z w128 (of_z w128 part.cost) ≡ part.cost = search rules in
    let bound_is : to_z w128 (of_z w128 part.bound) ≡ part.bound = search rules in
    subst (λ (J : Problem). Establishes J part.root (to_z w128 (of_z w128 part.cost)) (to_z w128 (of_z w128 part.bound))) c.instance.ensures
    (subst (λ (z : ℤ). Establishes I part.root z (to_z w128 (of_z w128 part.bound))) (sym cost_is)
    (subst (Establishes I part.root part.cost) (sym bound_is)
    (Establishes-pairs I c.args.text.now part.root part.cost part.bound c.in_ok-part.ensures.proves)))

pub returns : goal.returns
returns c =
    let old = c.args.cover.now in
    let new = c.admit.new.self in
    let part = c.in_ok-part.part in
    let cost_is : to_z w128 (of_z w128 part.cost) ≡ part.cost = search rules in
    let bound_is : to_z w128 (of_z w128 part.bound) ≡ part.bound = search rules in
    inr (HasPairPart-admitted c.instance.result.now old new c.args.text.now part.root part.cost part.bound c.instance.ensures c.in_ok-part.ensures.proves
    (subst (λ (z : ℤ). IsAdmitted part.root z part.bound old new) cost_is
    (subst (λ (z : ℤ). IsAdmitted part.root (to_z w128 (of_z w128 part.cost)) z old new) bound_is c.admit.ensures)))

pub returns-then-not-states_version_two : goal.returns-then-not-states_version_two
returns-then-not-states_version_two c =
    let old = c.args.cover.now in
    adds-first old.instance c.args.text.now old _ c.add.result (λ two. false≢true (sym c.if-not-states_version_two.true ∙ c.states_version_two.ensures.1 two)) c.add.ensures

pub returns-in_err-part : goal.returns-in_err-part
returns-in_err-part c =
    let e = err_from_is_err_and c.from_residual.result c.from_residual.ensures.1 in
    let refused = subst (λ (J : Problem). RefusesNoPairs J c.args.text.now c.in_err-part.field-0.0) c.instance.ensures (c.in_err-part.ensures {u = tt}).refused in
    rw (e.1, e.2) (inr (refused, inl (c.states_version_two.ensures.0 c.if-not-states_version_two.false)), refl)
