use Rattle.std.proofs.Common.{List, ℕ, length, ap, refl, sym, subst, arith}
use Rattle.std.proofs.lemmas.Bool.{false≢true}
use Rattle.number_list.specs.Numbers.{numbers_in}
use Rattle.qap_search.specs.Certificate.TreeBuilding.{BeginsByTurns}
use Rattle.qap_search.proofs.CertificateLemmas.DeeperNodes.{child_test, no_child_begins, no_child_length}
use Rattle.qap_search.proofs.certificate.tree_building.is_child.Goals as goal

pub returns-then-len-facilities : goal.returns-then-len-facilities
returns-then-len-facilities c =
    let x = c.args.parent.now in
    let same = ap length c.facilities-facilities.ensures.value in
    let other = c.if-len-facilities.true in
    no_child_length x c.args.facility c.args.location (numbers_in c.args.list.now) c.facilities-facilities.ensures.placement.paired (λ e. other (omega arith))

pub returns-then-not-are_by_turns : goal.returns-then-not-are_by_turns
returns-then-not-are_by_turns c =
    let x = c.args.parent.now in
    let list = numbers_in c.args.list.now in
    no_child_begins x c.args.facility c.args.location list c.facilities-facilities.ensures.placement.paired (λ begins.
    false≢true ((c.if-not-are_by_turns.ensures {u = tt}).1 (
    subst (λ (ks : List ℕ). BeginsByTurns c.facilities-facilities.result.now ks list) (sym c.places-places.ensures.value)
    (subst (λ (fs : List ℕ). BeginsByTurns fs x.places list) (sym c.facilities-facilities.ensures.value) begins)
    )))

pub returns : goal.returns
returns c =
    let x = c.args.parent.now in
    let list = numbers_in c.args.list.now in
    let same = ap length c.facilities-facilities.ensures.value in
    child_test x c.args.facility c.args.location list c.ends_with.result c.facilities-facilities.ensures.placement.paired (omega (arith, c.if-len-facilities.false))
    (subst (λ (ks : List ℕ). BeginsByTurns x.facilities ks list) c.places-places.ensures.value
    (subst (λ (fs : List ℕ). BeginsByTurns fs c.places-places.result.now list) c.facilities-facilities.ensures.value ((c.if-not-are_by_turns.ensures {u = tt}).0 refl)))
    c.ends_with.ensures
