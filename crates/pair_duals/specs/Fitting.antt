-- Parts of the test whether pair duals fit.
use Rattle.std.specs.Prelude.{◌≢◌, ℕ, ◌<◌, length, ℤ, pos, ◌≤ℤ◌, slice_index}
use Rattle.qap_cost.specs.Instance.{Problem, entry}
use Rattle.pair_duals.specs.PairDuals.{Duals, residual}

-- the entry of B from the k-th location to the l-th
abbrev pub distance : Problem → Duals → ℕ → ℕ → ℤ
distance I D k l = entry I.size I.b (slice_index D.locations k) (slice_index D.locations l)

-- the residual of facility i at location k with facility j is nonnegative at each other location
pub record FitsPair (I : Problem) (D : Duals) (i k j : ℕ) : Type 0 where
  pub below : (l : ℕ) → l < length D.locations → k ≢ l → pos 0 ≤ℤ residual I D i k j l

-- likewise for each facility below j
pub record FitsFacility (I : Problem) (D : Duals) (k j : ℕ) : Type 0 where
  pub below : (i l : ℕ) → i < j → l < length D.locations → k ≢ l → pos 0 ≤ℤ residual I D i k j l

-- likewise for any two facilities
pub record FitsLocation (I : Problem) (D : Duals) (k : ℕ) : Type 0 where
  pub below : (i j l : ℕ) → i < j → j < length D.facilities → l < length D.locations → k ≢ l → pos 0 ≤ℤ residual I D i k j l
