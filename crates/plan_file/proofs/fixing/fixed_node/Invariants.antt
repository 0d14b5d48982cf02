use Rattle.std.proofs.Common.{map, string_bytes, take}
use Rattle.qap_cost.specs.Placement.{IsPlacement}
use Rattle.plan_file.specs.Fixing.{AreFixed}
use Rattle.plan_file.proofs.fixing.fixed_node.Given as goal

abbrev pub invariant-loop-pin : goal.invariant-loop-pin
invariant-loop-pin l = record {
  fixed : AreFixed (take l.pin-index l.pins) (map string_bytes l.departments) (map string_bytes l.places) l.node;
  placement : IsPlacement l.node;
}
