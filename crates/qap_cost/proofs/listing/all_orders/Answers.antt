use Rattle.std.proofs.Common.{refl, arith}
use Rattle.std.specs.List.{range_with_len}
use Rattle.std.proofs.lemmas.Iterator.{YieldsList-from_range}
use Rattle.qap_cost.proofs.Listings.{pool_is, places_are}
use Rattle.qap_cost.proofs.listing.all_orders.Goals as goal

pub returns-clause-pool : goal.returns-clause-pool
returns-clause-pool c =
    pool_is _ _ (range_with_len 0 c.args.n) (λ s. s.pool.items) c.permutations.result
    (YieldsList-from_range 0 c.args.n c.args.n refl (omega arith)).runs c.permutations.ensures.pool

pub returns-clause-places : goal.returns-clause-places
returns-clause-places c = places_are c.args.n c.permutations.result (returns-clause-pool c) c.permutations.ensures.places
