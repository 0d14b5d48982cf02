use Rattle.std.proofs.Common.{◌≡◌, ◌∙◌, Some, ap, subst, sym, take}
use Rattle.std.specs.Prelude.{◌≤ℤ◌}
use Rattle.std.proofs.lemmas.Option.{IfSome_then}
use Rattle.qap_cost.specs.Bijection.{IsPerm}
use Rattle.qap_cost.specs.Objective.{cost_of}
use Rattle.qap_cost.specs.Placement.{Completes}
use Rattle.plan_charge.specs.Extended.{extended_list}
use Rattle.qap_plan.specs.Proofs.{HasSame}
use Rattle.plan_files.proofs.Restricted.{IsCharged-same, allowed-IsPerm, first-is, permutes-larger}
use Rattle.qap_plan.proofs.Proofs.{charged_text, claims_kept, kept_below, makes_of}
use Rattle.qap_plan.proofs.search.charging.search_restricted.Goals as goal

pub search_keeping-requires-clause-start : goal.search_keeping-requires-clause-start
search_keeping-requires-clause-start g c κs within =
    let I = c.args.instance.now in
    let x = c.args.restriction.now.fixed.now in
    let charges = c.args.restriction.now.charges.now in
    let f = c.args.restriction.now.forbidden.now in
    let start = c.args.start.now in
    let J = c.in_ok-searched.searched.instance in
    let y = c.in_ok-searched.searched.node in
    let first = c.in_ok-first.first in
    let r = c.in_ok-searched.ensures in
    let is = first-is I J x y charges f start first c.size-n.result c.size.result r c.size-n.ensures.value c.size.ensures.value c.in_ok-first.ensures in
    permutes-larger I J x y charges f first r (subst (Completes y) (sym is) (c.restricted_law.ensures.longer I J x y charges f start r c.requires.start))

pub shortened-requires-clause-front : goal.shortened-requires-clause-front
shortened-requires-clause-front g c =
    let I = c.args.instance.now in
    let x = c.args.restriction.now.fixed.now in
    let charges = c.args.restriction.now.charges.now in
    let f = c.args.restriction.now.forbidden.now in
    let start = c.args.start.now in
    let J = c.in_ok-searched.searched.instance in
    let y = c.in_ok-searched.searched.node in
    let first = c.in_ok-first.first in
    let whole = c.with_proof-whole.result.planned in
    let q = whole.permutation in
    let r = c.in_ok-searched.ensures in
    let told = c.with_proof-whole.ensures in
    let kept = kept_below J y (Some first) c.in_ok-found.found whole told.permutation told.cost told.bound c.in_ok-found.ensures.kept in
    let is = first-is I J x y charges f start first c.size-n.result c.size.result r c.size-n.ensures.value c.size.ensures.value c.in_ok-first.ensures in
    let begun : Completes y first = subst (Completes y) (sym is) (c.restricted_law.ensures.longer I J x y charges f start r c.requires.start) in
    let most = subst (λ s. whole.cost ≤ℤ cost_of J s) is (kept.no_dearer begun) in
    let charged = c.restricted_law.ensures.found I J x y charges f start q whole.cost whole.bound r c.requires.start kept.completes kept.costs most kept.none_less kept.at_most in
    subst (λ n. IsPerm (take n q)) (c.requires.size ∙ sym c.size-n.ensures.value) (allowed-IsPerm I x f (take x.size q) c.size-n.ensures.instance c.requires.size charged.allowed)

pub returns-clause-charged : goal.returns-clause-charged
returns-clause-charged g c =
    let I = c.args.instance.now in
    let x = c.args.restriction.now.fixed.now in
    let charges = c.args.restriction.now.charges.now in
    let f = c.args.restriction.now.forbidden.now in
    let start = c.args.start.now in
    let J = c.in_ok-searched.searched.instance in
    let y = c.in_ok-searched.searched.node in
    let first = c.in_ok-first.first in
    let whole = c.with_proof-whole.result.planned in
    let q = whole.permutation in
    let r = c.in_ok-searched.ensures in
    let told = c.with_proof-whole.ensures in
    let kept = kept_below J y (Some first) c.in_ok-found.found whole told.permutation told.cost told.bound c.in_ok-found.ensures.kept in
    let is = first-is I J x y charges f start first c.size-n.result c.size.result r c.size-n.ensures.value c.size.ensures.value c.in_ok-first.ensures in
    let begun : Completes y first = subst (Completes y) (sym is) (c.restricted_law.ensures.longer I J x y charges f start r c.requires.start) in
    let most = subst (λ s. whole.cost ≤ℤ cost_of J s) is (kept.no_dearer begun) in
    let charged = c.restricted_law.ensures.found I J x y charges f start q whole.cost whole.bound r c.requires.start kept.completes kept.costs most kept.none_less kept.at_most in
    let shorter = c.in_ok-shorter.ensures in
    IsCharged-same I x charges f start (take x.size q) c.in_ok-shorter.shorter.permutation whole.cost whole.bound c.in_ok-shorter.shorter.cost c.in_ok-shorter.shorter.bound charged
    (shorter.permutation ∙ ap (λ n. take n q) (c.size-n.ensures.value ∙ sym c.requires.size)) shorter.cost shorter.bound

pub returns-clause-proof : goal.returns-clause-proof
returns-clause-proof g c =
    let I = c.args.instance.now in
    let x = c.args.restriction.now.fixed.now in
    let charges = c.args.restriction.now.charges.now in
    let f = c.args.restriction.now.forbidden.now in
    let start = c.args.start.now in
    let J = c.in_ok-searched.searched.instance in
    let y = c.in_ok-searched.searched.node in
    let first = c.in_ok-first.first in
    let whole = c.with_proof-whole.result.planned in
    let q = whole.permutation in
    let r = c.in_ok-searched.ensures in
    let told = c.with_proof-whole.ensures in
    let kept = kept_below J y (Some first) c.in_ok-found.found whole told.permutation told.cost told.bound c.in_ok-found.ensures.kept in
    let found = c.in_ok-found.found in
    let shorter = c.in_ok-shorter.ensures in
    let last = c.in_ok-shorter.shorter in
    let p = last.permutation in
    let front : p ≡ take x.size q = shorter.permutation ∙ ap (λ n. take n q) (c.size-n.ensures.value ∙ sym c.requires.size) in
    let longer : q ≡ extended_list r.charges.count p = c.restricted_law.ensures.shorter I J x y charges f q r kept.completes ∙ ap (extended_list r.charges.count) (sym front) in
    IfSome_then c.with_proof-whole.result.proof told.proof (λ a left text of_text.
    let makes = makes_of J (HasSame y) c.in_ok-root.root found whole a c.in_ok-root.ensures.same told.permutation told.cost
    (claims_kept J y found.permutation found.cost found.bound found.proof c.in_ok-found.ensures.proof) left text of_text in
    record {
      problem = J;
      node = y;
      restricts = r;
      shows = charged_text J (HasSame y) whole last (extended_list r.charges.count p) text longer shorter.cost shorter.bound makes;
    })
