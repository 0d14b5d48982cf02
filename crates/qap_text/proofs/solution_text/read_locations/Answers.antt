use Rattle.std.proofs.Common.{◌≡◌, ◌≢◌, ℕ, ◌<◌, List, length, get_or, ◌++◌, ◌∷◌, [], subst, rules}
use Rattle.qap_text.proofs.Locations.{HasReadLocations-more}
use Rattle.qap_text.proofs.solution_text.read_locations.Goals as goal

pub loop-preserved : goal.loop-preserved
loop-preserved c =
    let k = c.in_ok-location.location in
    let pushed : c.push.new.self.items ≡ c.loop.locations.items ++ k ∷ [] = search rules in
    let new : (i : ℕ) → i < length c.loop.locations.items → get_or c.loop.locations.items i 0 ≢ k =
    subst (λ (p : List ℕ). (i : ℕ) → i < length p → get_or p i 0 ≢ k) c.deref.ensures.value (c.in_ok-location.ensures.1) in
    HasReadLocations-more _ _ _ _ _ _ _ _ _ _ c.loop.invariant c.in_ok-location.ensures.0 new c.in_ok-location.ensures.3 pushed
