use Rattle.std.proofs.Common.{◌≡◌, ◌+◌, ◌-◌, ◌*◌, ◌<◌, ◌∷◌, ◌++◌, [], ℕ, length, get_or, ap, sym, ◌∙◌, subst, refl, inl, inr, ⊎_elim, arith, rules, length-append, drop_of_length-le}
use Rattle.std.proofs.lemmas.Result.{err_from_is_err_and}
use Rattle.qap_cost.proofs.Placements.{IsPlacement-depth}
use Rattle.qap_cost.specs.Placement.{Placement, placing}
use Rattle.qap_cert.specs.Tree.{Nodes, nodes_of, node_of}
use Rattle.qap_cert.specs.declared.tree.Tree.TheViews.{Split}
use Rattle.qap_cert.proofs.Trees.{node_of-Split}
use Rattle.qap_search.specs.Certificate.TreeBuilding.{BeginWith, BeginWithNone, ahead}
use Rattle.qap_search.proofs.CertificateLemmas.Taking.{HaveTaken, HaveTaken-all, HaveTaken-fault, HaveTaken-more, get_or-any, nodes_of-push}
use Rattle.qap_search.proofs.certificate.tree_building.+building.Goals as goal

pub take_child-take_split-requires : goal.take_child-take_split-requires
take_child-take_split-requires t c =
    let node = c.in_ok-node-in-Some-Split.node in
    let parent = c.args.parent.now in
    let is = c.in_ok-node-in-Some-Split.ensures.value in
    let depth = IsPlacement-depth node c.in_ok-node-in-Some-Split.ensures.placement in
    let size : node.size ≡ parent.size = ap (λ (x : Placement). x.size) is in
    let placed : length node.facilities ≡ length parent.facilities + 1 =
    ap (λ (x : Placement). length x.facilities) is ∙ length-append parent.facilities (c.args.facility ∷ []) in
    let whole : 3 * (parent.size - length parent.facilities) ≡ t = c.decreases in
    let smaller : 3 * (node.size - length node.facilities) + 2 < t = omega arith in
    (smaller, tt)

pub take_children-returns-in_err-child : goal.take_children-returns-in_err-child
take_children-returns-in_err-child t c =
    let x = c.args.node.now in
    let f = c.args.facility in
    let ks = c.in_ok-locations.locations.items in
    let p = err_from_is_err_and c.from_residual-in_err-child.result c.from_residual-in_err-child.ensures.1 in
    let h = c.in_err-child.ensures {u = tt} in
    let below : c.loop-i.i < length ks = (let test = c.loop-i-test.true in let end = c.loop-i.auto.i-end in let count = c.len-i-end.ensures in let long = c.in_ok-locations.locations.ok.0 in omega arith) in
    let at : c.index.result.now ≡ get_or ks c.loop-i.i 0 = c.index.ensures ∙ get_or-any ks c.loop-i.i c.index.result.now 0 below in
    rw (p.1, p.2) (⊎_elim inl (λ fault. inr (
      fault.0,
      HaveTaken-fault x f ks (ahead c.args.nodes.now.items) (nodes_of c.loop-i.children.items) c.loop-i.i (ahead c.loop-i.nodes.items)
          c.in_ok-locations.ensures.value c.loop-i.invariant below
          (subst (λ (k : ℕ). BeginWithNone (placing x f k) (ahead c.loop-i.nodes.items)) at fault.1),
    ))
    h)

pub take_children-loop-i-preserved : goal.take_children-loop-i-preserved
take_children-loop-i-preserved t c =
    let x = c.args.node.now in
    let f = c.args.facility in
    let ks = c.in_ok-locations.locations.items in
    let child = c.in_ok-child.child in
    let pushed : c.push.new.self.items ≡ c.loop-i.children.items ++ child ∷ [] = search rules in
    let below : c.loop-i.i < length ks = (let test = c.loop-i-test.true in let end = c.loop-i.auto.i-end in let count = c.len-i-end.ensures in let long = c.in_ok-locations.locations.ok.0 in omega arith) in
    let at : c.index.result.now ≡ get_or ks c.loop-i.i 0 = c.index.ensures ∙ get_or-any ks c.loop-i.i c.index.result.now 0 below in
    subst (λ (ts : Nodes). HaveTaken x f ks (ahead c.args.nodes.now.items) ts (c.loop-i.i + 1) (ahead c.take_child.new.nodes.items))
    (sym (ap nodes_of pushed ∙ nodes_of-push c.loop-i.children.items child))
    (HaveTaken-more x f ks (ahead c.args.nodes.now.items) (nodes_of c.loop-i.children.items) c.loop-i.i (ahead c.loop-i.nodes.items) (ahead c.take_child.new.nodes.items) (node_of child)
    c.loop-i.invariant below
    (subst (λ (k : ℕ). BeginWith (placing x f k) (node_of child) (ahead c.loop-i.nodes.items) (ahead c.take_child.new.nodes.items)) at c.in_ok-child.ensures))

pub take_children-returns : goal.take_children-returns
take_children-returns t c =
    let x = c.args.node.now in
    let f = c.args.facility in
    let ks = c.in_ok-locations.locations.items in
    rw (node_of-Split (Split f c.loop-i.children) f c.loop-i.children refl)
    (HaveTaken-all x f ks (ahead c.args.nodes.now.items) (nodes_of c.loop-i.children.items) c.loop-i.i (ahead c.loop-i.nodes.items)
    c.in_ok-locations.ensures.value c.free_locations.ensures.placement c.requires c.loop-i.invariant
    (drop_of_length-le ks {i = c.loop-i.i} (let test = c.loop-i-test.false in let end = c.loop-i.auto.i-end in let count = c.len-i-end.ensures in let long = c.in_ok-locations.locations.ok.0 in omega arith)))
