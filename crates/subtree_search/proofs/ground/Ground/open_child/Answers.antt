use Rattle.std.proofs.Common.{◌≡◌, List, ℕ, get_or, ◌∙◌, ap, arith, to_z, of_z}
use Rattle.std.proofs.lemmas.Int.{ints}
use Rattle.std.specs.Int.{w128}
use Rattle.subtree_search.proofs.Nodes.{IsOpenAt-child, facility_is, location_is}
use Rattle.subtree_search.proofs.ground.Ground.open_child.Goals as goal

pub returns-clause-opened : goal.returns-clause-opened
returns-clause-opened c =
    let v = c.value.result in
    let passed : to_z w128 (of_z w128 v) ≡ v = omega (arith, ints) in
    let y = c.args.path.now in
    let R = c.args.level.now.form in
    let n = c.requires.node in
    let row = c.from.ensures ∙ ap (λ (l : List ℕ). get_or l c.args.h 0) c.rows.ensures.value in
    let column = c.from-2.ensures ∙ ap (λ (l : List ℕ). get_or l c.args.g 0) c.columns.ensures.value in
    let f = facility_is _ _ _ y R c.args.h c.from.result c.facility-facility.result n c.requires.row row c.facility-facility.ensures.value in
    let k = location_is _ _ _ y R c.args.g c.from-2.result c.location-location.result n c.requires.column column c.location-location.ensures.value in
    IsOpenAt-child c.args.self.now.instance.now c.args.self.now.duals.now c.args.self.now.step y R c.args.next.now.form c.args.h c.args.g
    (record { facility = c.facility-facility.result; location = c.location-location.result; value = to_z w128 (of_z w128 v) })
    n c.requires.row c.requires.column f k (passed ∙ c.value.ensures.value) c.requires.next c.requires.least

pub returns-clause-value : goal.returns-clause-value
returns-clause-value c = (let v = c.value.result in let passed : to_z w128 (of_z w128 v) ≡ v = omega (arith, ints) in passed) ∙ c.value.ensures.value
