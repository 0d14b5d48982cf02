-- The path from a node to one below it.
use Rattle.std.specs.Prelude.{◌-◌, length, take}
use Rattle.qap_cost.specs.Placement.{Placement}

-- without the facility that was placed last
abbrev pub before_last : Placement → Placement
before_last x = record { size = x.size; facilities = take (length x.facilities - 1) x.facilities; places = take (length x.places - 1) x.places }
