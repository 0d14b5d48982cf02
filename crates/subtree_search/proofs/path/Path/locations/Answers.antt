use Rattle.std.proofs.Common.{◌≡◌, length, subst, arith}
use Rattle.qap_cost.specs.Placement.{IsPlacement}
use Rattle.subtree_search.proofs.Wholes.{completed_by, IsPerm-completed}
use Rattle.subtree_search.proofs.path.Path.locations.Goals as goal

pub returns-clause-completion : goal.returns-clause-completion
returns-clause-completion c =
    let y = c.self.inside in
    let long : length c.placed.result.items ≡ y.size = omega (arith, c.placed.ensures.length, c.in_ok-locations.ensures.len, c.in_ok-locations.locations.ok.0) in
    completed_by c.args.self.now y.size y.facilities.items y.places.items c.deref.result.now c.deref-2.result.now c.placed.result.items
    c.self.view_is c.deref.ensures.value c.deref-2.ensures.value c.self.invariant c.requires long c.placed.ensures.agrees

pub returns-clause-permutation : goal.returns-clause-permutation
returns-clause-permutation c =
    IsPerm-completed c.args.self.now c.placed.result.items (subst IsPlacement c.self.view_is c.self.invariant) (returns-clause-completion c)
