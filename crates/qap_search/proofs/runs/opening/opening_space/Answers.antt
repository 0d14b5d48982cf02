use Rattle.std.proofs.Common.{◌≡◌, ◌≤◌, ◌*◌, ◌^◌, ◌∙◌, List, ℕ, ap, refl, arith, subst}
use Rattle.std.specs.Int.{w128}
use Rattle.std.specs.Prelude.{FitsSigned, unsigned_abs}
use Rattle.std.proofs.lemmas.Int.{to_z-of_z, fits_signed_from_abs}
use Rattle.qap_cost.specs.Objective.{cost_of}
use Rattle.qap_cost.specs.Placement.{Placement, root_of}
use Rattle.space_txn.specs.World.{World}
use Rattle.qap_search.specs.Runs.Opening.{IsOpening}
use Rattle.qap_search.specs.Law.Search.{best_with, search_of}
use Rattle.qap_search.proofs.runs.opening.opening_space.Goals as goal

pub returns : goal.returns
returns c =
    let I = c.args.instance.now in
    let x = c.in_ok-root.root in
    let p = c.in_ok-start.start in
    let space : World = c.put_forever-2.new.space in
    let root : x ≡ root_of I.size = c.in_ok-root.ensures.value ∙ ap root_of c.size.ensures.value in
    let bounded : unsigned_abs (cost_of I p) ≤ 65536 * 10 ^ 18 = subst (λ z. unsigned_abs z ≤ 65536 * 10 ^ 18) c.cost.ensures.value c.cost.ensures.bounded in
    let fits : FitsSigned w128 (cost_of I p) = fits_signed_from_abs w128 (cost_of I p) (omega (arith, bounded)) in
    let node = c.in_ok-tuple_of_node.ensures in
    let opens : IsOpening (search_of I x (best_with I p)) space =
    rw (c.in_ok-put_forever-2.ensures {u = tt}, c.in_ok-put_forever.ensures {u = tt}, c.new-space.ensures, node.value, c.in_ok-best.ensures {u = tt}, c.cost.ensures.value, to_z-of_z w128 (cost_of I p) fits)
    (record {
      is = refl;
      cut_tree = c.opening_law.ensures (search_of I x (best_with I p)) (record { root = node.placement; same_size = ap (λ (y : Placement). y.size) root; permutes = c.in_ok-start.ensures.permutes; costs = refl });
      fresh = refl;
    }) in
    subst (λ (q : List ℕ). IsOpening (search_of I (root_of I.size) (best_with I q)) space) c.in_ok-start.ensures.value
    (subst (λ (y : Placement). IsOpening (search_of I y (best_with I p)) space) root opens)
