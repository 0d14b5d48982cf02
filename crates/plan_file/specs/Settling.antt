-- A permutation with one facility moved to a location, by an exchange with the facility that was there.
use Rattle.std.specs.Prelude.{◌≡◌, ◌≢◌, ℕ, List, length, slice_index}
use Rattle.qap_cost.specs.Bijection.{IsPerm}

-- f is at k; facilities other than f and the one that was at k are unchanged, and nothing has moved if f was at k before
pub record IsSettled (old : List ℕ) (f k : ℕ) (new : List ℕ) : Type 0 where
  pub permutation : IsPerm new
  pub long : length new ≡ length old
  pub settled : slice_index new f ≡ k
  pub kept : (i : ℕ) → i ≢ f → slice_index old i ≢ k → slice_index new i ≡ slice_index old i
  pub same : slice_index old f ≡ k → new ≡ old
