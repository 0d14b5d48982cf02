-- What is known about a permutation during the enumeration of the pairs of facilities.
use Rattle.std.specs.Prelude.{◌≡◌, ℕ, ◌<◌, Bool, List, ◌<ℤ◌, ◌≤ℤ◌}
use Rattle.std.specs.Bool.{MatchBool}
use Rattle.qap_cost.specs.Instance.{Problem}
use Rattle.qap_cost.specs.Objective.{Permutes, cost_of}
use Rattle.qap_improve.specs.Exchange.{exchanging}

-- exchanging facility r with none of those between it and facility m costs less
abbrev pub NoneGainsWith : Problem → ℕ → ℕ → List ℕ → Type 0
NoneGainsWith I r m p = (s : ℕ) → r < s → s < m → cost_of I p ≤ℤ cost_of I (exchanging p r s)

-- no exchange of which the first facility is below m costs less
abbrev pub NoneGainsBelow : Problem → ℕ → List ℕ → Type 0
NoneGainsBelow I m p = (r s : ℕ) → r < m → r < s → s < I.size → cost_of I p ≤ℤ cost_of I (exchanging p r s)

-- the result is still a permutation; its cost has decreased, or nothing changed and the permutation has the property
pub record HasTried (I : Problem) (P : List ℕ → Type 0) (old new : List ℕ) (gained : Bool) : Type 0 where
  pub permutation : Permutes I new
  pub gain : MatchBool gained (cost_of I new <ℤ cost_of I old) ((new ≡ old) × P new)
