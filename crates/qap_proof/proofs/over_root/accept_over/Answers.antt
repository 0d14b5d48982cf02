use Rattle.std.proofs.Common.{◌≡◌, of_z, rules, subst, sym, to_z}
use Rattle.std.specs.Int.{w128}
use Rattle.qap_cost.specs.Placement.{Placement}
use Rattle.qap_proof.proofs.Validity.{Proves-NoneCompletesForLess}
use Rattle.qap_proof.specs.Claim.{NoneCompletesForLess}
use Rattle.qap_proof.proofs.over_root.accept_over.Goals as goal

pub returns-clause-so : goal.returns-clause-so
returns-clause-so c =
    let I = c.args.instance.now in
    let head = c.in_ok-head.head in
    let told = c.in_ok-head.ensures.proved in
    let same : head.root ≡ c.args.root.now = search rules in
    let bound_is : to_z w128 (of_z w128 head.bound) ≡ head.bound = search rules in
    subst (NoneCompletesForLess I c.args.root.now) (sym bound_is)
    (subst (λ (x : Placement). NoneCompletesForLess I x head.bound) same
    (subst (λ (x : Placement). NoneCompletesForLess I x head.bound) told.root
    (subst (NoneCompletesForLess I told.proof.root) told.bound (Proves-NoneCompletesForLess I told.proof c.in_ok-head.ensures.instance told.is_text.proof told.proved))))
