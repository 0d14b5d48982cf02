use Rattle.std.proofs.Common.{◌≡◌, List, ℕ, get_or, ◌∙◌, ap, arith}
use Rattle.qap_cost.specs.Placement.{free_facilities, free_locations}
use Rattle.subtree_search.proofs.Nodes.{IsNode-child, facility_free, facility_is, fewer_rows, location_free, location_is}
use Rattle.subtree_search.proofs.ground.Ground.descend.Goals as goal

facility : (c : goal.After-push-arg-1) → c.facility-facility.result ≡ get_or (free_facilities c.args.path.now) c.args.h 0
facility c =
    let row = c.from.ensures ∙ ap (λ (l : List ℕ). get_or l c.args.h 0) c.rows.ensures.value in
    facility_is _ _ _ c.args.path.now c.args.level.now.form c.args.h c.from.result c.facility-facility.result c.requires.node c.requires.row row c.facility-facility.ensures.value

location : (c : goal.After-push-arg-1) → c.location-location.result ≡ get_or (free_locations c.args.path.now) c.args.g 0
location c =
    let column = c.from-2.ensures ∙ ap (λ (l : List ℕ). get_or l c.args.g 0) c.columns.ensures.value in
    location_is _ _ _ c.args.path.now c.args.level.now.form c.args.g c.from-2.result c.location-location.result c.requires.node c.requires.column column c.location-location.ensures.value

pub push-requires-clause-facility : goal.push-requires-clause-facility
push-requires-clause-facility c = facility_free _ _ _ c.args.path.now c.args.level.now.form c.args.h c.facility-facility.result c.requires.node c.requires.row (facility c)

pub push-requires-clause-location : goal.push-requires-clause-location
push-requires-clause-location c = location_free _ _ _ c.args.path.now c.args.level.now.form c.args.g c.location-location.result c.requires.node c.requires.column (location c)

pub returns-clause-node : goal.returns-clause-node
returns-clause-node c =
    let y = c.args.path.now in
    let R = c.args.level.now.form in
    let n = c.requires.node in
    let row = c.from.ensures ∙ ap (λ (l : List ℕ). get_or l c.args.h 0) c.rows.ensures.value in
    let column = c.from-2.ensures ∙ ap (λ (l : List ℕ). get_or l c.args.g 0) c.columns.ensures.value in
    let f = facility_is _ _ _ y R c.args.h c.from.result c.facility-facility.result n c.requires.row row c.facility-facility.ensures.value in
    let k = location_is _ _ _ y R c.args.g c.from-2.result c.location-location.result n c.requires.column column c.location-location.ensures.value in
    IsNode-child _ _ _ y c.push.new.self R c.child.new.child c.args.h c.args.g c.facility-facility.result c.location-location.result n c.requires.row c.requires.column f k c.in_ok-push.ensures.ok
    (c.in_ok-child.ensures.form y n.placement n.form)

pub returns-clause-fewer : goal.returns-clause-fewer
returns-clause-fewer c = omega (arith, fewer_rows _ _ _ _ _ _ c.requires.row c.in_ok-child.ensures.child)
