use Rattle.std.proofs.Common.{◌∙◌, ◌≡◌, of_z, rules, subst, sym, to_z}
use Rattle.std.proofs.lemmas.Bool.{false≢true}
use Rattle.std.specs.Int.{w128}
use Rattle.qap_cost.specs.Placement.{Placement}
use Rattle.qap_proof.specs.Claim.{NoneCompletesForLess}
use Rattle.proof_versions.proofs.Verdicts.{NoneCompletesForLess-pairs, over_root-first}
use Rattle.proof_versions.proofs.over_root.accept_over.Goals as goal

pub returns-then-not-states_version_two-clause-shown : goal.returns-then-not-states_version_two-clause-shown
returns-then-not-states_version_two-clause-shown c =
    over_root-first c.args.instance.now c.args.text.now c.args.root.now c.accept_over.result
    (λ two. false≢true (sym c.if-not-states_version_two.true ∙ c.states_version_two.ensures.1 two)) c.accept_over.ensures.shown

pub returns-clause-so : goal.returns-clause-so
returns-clause-so c =
    let I = c.args.instance.now in
    let stated = c.in_ok-stated.stated in
    let same : stated.root ≡ c.args.root.now = search rules in
    let bound_is : to_z w128 (of_z w128 stated.bound) ≡ stated.bound = search rules in
    subst (NoneCompletesForLess I c.args.root.now) (sym bound_is)
    (subst (λ (x : Placement). NoneCompletesForLess I x stated.bound) same
    (NoneCompletesForLess-pairs I c.args.text.now stated.root stated.cost stated.bound c.in_ok-stated.ensures.proves))
