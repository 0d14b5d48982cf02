use Rattle.std.proofs.Common.{◌≡◌, ◌+◌, ◌*◌, ◌<◌, ◌≤◌, ◌++◌, ◌∷◌, [], ℕ, List, length, get_or, drop, sym, ◌∙◌, ap, subst, arith, to_z, of_z, drop_of_length-le, rules}
use Rattle.std.specs.Int.{w128}
use Rattle.std.specs.Prelude.{ℤ}
use Rattle.std.proofs.lemmas.Int.{to_z-of_z}
use Rattle.qap_cost.specs.Placement.{Placement, IsFreeLocation, placing}
use Rattle.qap_cert.specs.Shape.{HasShape, AllHaveShape}
use Rattle.qap_cert.specs.Tree.{split, node_of, nodes_of, node_count, nodes_count}
use Rattle.qap_cert.specs.declared.tree.Tree.{Tree}
use Rattle.qap_cert.specs.declared.version.Version.TheVariants.{Second}
use Rattle.qap_cert.proofs.Trees.{node_of-Split, child_count-nodes_of, node_count-le}
use Rattle.qap_search.specs.Certificate.LeafBounds.{IsLeastOf, shown, shown_by_all}
use Rattle.qap_search.proofs.CertificateLemmas.LeafBounds.{HaveShown-all, HaveShown-at, HaveShown-more}
use Rattle.qap_search.proofs.certificate.leaf_bounds.+showing.Goals as goal

pub least_shown-least_shown_by_all-requires : goal.least_shown-least_shown_by_all-requires
least_shown-least_shown_by_all-requires t c =
    let x = c.args.node.now in
    let f = c.in-Split.facility in
    let ts = c.in-Split.children.items in
    let is = node_of-Split c.args.tree.now f c.in-Split.children c.in-Split.is in
    let shape : HasShape Second x.size x.facilities (split f (nodes_of ts)) = subst (HasShape Second x.size x.facilities) is c.requires.shape in
    let listed = c.in_ok-locations-in-Split.ensures.free in
    let count = child_count-nodes_of ts in
    let whole : 2 * node_count (node_of c.args.tree.now) ≡ t = c.decreases in
    let smaller : 2 * nodes_count (nodes_of c.deref-in-Split.result.now) + 1 < t =
    omega (arith, whole, ap node_count is, ap (λ us. nodes_count (nodes_of us)) c.deref-in-Split.ensures.value) in (
      smaller,
      (
        c.requires.same_size,
        (
          c.requires.placement,
          (
            shape.1,
            (
              subst (λ (ks : List ℕ). (i : ℕ) → i < length ks → IsFreeLocation x (get_or ks i 0)) (sym c.deref.ensures.value) listed.each,
              (
                omega (arith, shape.3, listed.count, count, c.free_locations.ensures.placement.paired, ap length c.deref.ensures.value, ap length c.deref-in-Split.ensures.value),
                subst (λ us. AllHaveShape Second x.size (x.facilities ++ f ∷ []) (nodes_of us)) (sym c.deref-in-Split.ensures.value) shape.4,
              ),
            ),
          ),
        ),
      ),
    )

pub least_shown_by_all-least_shown-requires : goal.least_shown_by_all-least_shown-requires
least_shown_by_all-least_shown-requires t c =
    let I = c.args.instance.now in
    let x = c.args.node.now in
    let f = c.args.facility in
    let ks = c.args.locations.now in
    let ts = c.args.children.now in
    let i = c.loop-i.i in
    let child = c.index-children-i.result in
    let part = c.in_ok-part.part in
    let below : i < length ts = omega (arith, c.loop-i-test.true) in
    let at = HaveShown-at I x f _ _ ks ts i child below (omega (arith, below, c.requires.one_each)) c.index-children-i.is c.loop-i.invariant in
    let part_is : part ≡ placing x f (get_or ks i 0) = c.in_ok-part.ensures.value in
    let size : part.size ≡ x.size = ap (λ (y : Placement). y.size) part_is in
    let whole : 2 * nodes_count (nodes_of ts) + 1 ≡ t = c.decreases in
    let less : node_count (node_of child) ≤ nodes_count (nodes_of ts) = subst (λ (u : Tree). node_count (node_of u) ≤ nodes_count (nodes_of ts)) (sym c.index-children-i.is) (node_count-le ts i child below) in
    let smaller : 2 * node_count (node_of child) < t = omega (arith, whole, less) in
    (smaller, (c.requires.same_size ∙ sym size, (c.in_ok-part.ensures.placement, subst (λ (y : Placement). HasShape Second y.size y.facilities (node_of child)) (sym part_is) at.shape.0)))

pub least_shown_by_all-loop-i-preserved : goal.least_shown_by_all-loop-i-preserved
least_shown_by_all-loop-i-preserved t c =
    let I = c.args.instance.now in
    let x = c.args.node.now in
    let f = c.args.facility in
    let ks = c.args.locations.now in
    let ts = c.args.children.now in
    let i = c.loop-i.i in
    let child = c.index-children-i.result in
    let below : i < length ts = omega (arith, c.loop-i-test.true) in
    let at = HaveShown-at I x f _ _ ks ts i child below (omega (arith, below, c.requires.one_each)) c.index-children-i.is c.loop-i.invariant in
    let found = to_z w128 c.loop-i.found-bits in
    let same : c.in_ok-found.found ≡ to_z w128 (of_z w128 c.in_ok-found.found) = search rules in
    HaveShown-more I x f _ _ _ ks (nodes_of ts) (get_or ks i 0) (drop (i + 1) ks) (node_of child) (nodes_of (drop (i + 1) ts)) at
    (subst (IsLeastOf (found ∷ shown I (placing x f (get_or ks i 0)) (node_of child))) same
    (subst (λ (y : Placement). IsLeastOf (found ∷ shown I y (node_of child)) c.in_ok-found.found) c.in_ok-part.ensures.value c.in_ok-found.ensures))

pub least_shown_by_all-returns : goal.least_shown_by_all-returns
least_shown_by_all-returns t c =
    let ks = c.args.locations.now in
    let ts = c.args.children.now in
    let found = to_z w128 c.loop-i.found-bits in
    let past : length ts ≤ c.loop-i.i = omega (arith, c.loop-i-test.false) in
    subst (λ (z : ℤ). IsLeastOf (z ∷ shown_by_all c.args.instance.now c.args.node.now c.args.facility ks (nodes_of ts)) found) (to_z-of_z w128 c.args.least c.ranges.least)
    (HaveShown-all c.args.instance.now c.args.node.now c.args.facility _ _ ks (nodes_of ts) (drop c.loop-i.i ks) (drop c.loop-i.i ts)
    (drop_of_length-le ks (omega (arith, past, c.requires.one_each))) (drop_of_length-le ts past) c.loop-i.invariant)
