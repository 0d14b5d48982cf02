-- Flows extended with those of dummy departments.
use Rattle.std.specs.Prelude.{◌≡◌, ℕ, ◌/◌, ◌%◌, ◌<◌, List, length, ℤ, pos, slice_index_or}
use Rattle.qap_cost.specs.Range.{InRange}
use Rattle.plan_file.specs.Problem.{flow_of}

-- the first numbers, by rows, of the flows between as many departments as there are places
pub record IsFilledUp (departments : ℕ) (flows : List ℤ) (places count : ℕ) (filled : List ℤ) : Type 0 where
  pub many : length filled ≡ count
  pub flow : (k : ℕ) → k < count → slice_index_or filled k (pos 0) ≡ flow_of departments flows (k / places) (k % places)
  pub in_range : (k : ℕ) → k < count → InRange (slice_index_or filled k (pos 0))
