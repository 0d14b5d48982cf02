-- The free facilities and locations of a node.
use Rattle.std.specs.Prelude.{◌≡◌}
use Rattle.qap_cost.specs.Placement.{ListsFree, Placement, free_facilities, free_locations}
use Rattle.qap_search.specs.declared.node.branching.Free.{Free}

-- these are the free facilities and the free locations of x, ascending
pub record IsFreeOf (x : Placement) (free : Free) : Type 0 where
  pub facilities : free.facilities.now ≡ free_facilities x
  pub locations : free.locations.now ≡ free_locations x
  pub facilities_listed : ListsFree x.size x.facilities free.facilities.now
  pub locations_listed : ListsFree x.size x.places free.locations.now
