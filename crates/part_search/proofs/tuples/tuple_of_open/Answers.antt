use Rattle.std.proofs.Common.{ap, arith, length}
use Rattle.qap_cost.proofs.Placements.{IsPlacement-depth}
use Rattle.part_search.proofs.tuples.tuple_of_open.Goals as goal

pub list_field-requires : goal.list_field-requires
list_field-requires c =
    let placement = c.placement_law.ensures in
    let depth = IsPlacement-depth _ placement in
    let long = ap length c.facilities.ensures.value in
    omega (arith, depth, placement.small, long)

pub list_field-requires-2 : goal.list_field-requires-2
list_field-requires-2 c =
    let placement = c.placement_law.ensures in
    let depth = IsPlacement-depth _ placement in
    let long = ap length c.places.ensures.value in
    omega (arith, depth, placement.small, placement.paired, long)
