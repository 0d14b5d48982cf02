use Rattle.qap_cost.proofs.Listings.{Covers}
use Rattle.qap_cost.proofs.listing.least_by_listing.Given as goal

abbrev pub invariant-loop-locations : goal.invariant-loop-locations
invariant-loop-locations l =
    (goal.iterator-loop-locations).can_next l.locations-iterator
    × (goal.iterator-loop-locations).is_finite l.locations-iterator
    × Covers l.instance l.locations-iterator l.best
