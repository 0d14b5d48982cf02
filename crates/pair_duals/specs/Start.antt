-- The matrix of a node from the pair duals alone, whose rows and columns are those of the duals.
use Rattle.std.specs.Prelude.{◌≡◌, ℕ, ◌<◌, List, length, ℤ, pos, ◌+ℤ◌, ◌*ℤ◌, slice_index}
use Rattle.qap_cost.specs.Instance.{Problem}
use Rattle.qap_cost.specs.Placement.{Placement}
use Rattle.gilmore_lawler.specs.ReducedMatrix.{linear_cost}
use Rattle.pair_duals.specs.PairDuals.{Duals, alpha_of, beta_of}
use Rattle.pair_duals.specs.Reduced.{sum_but}

-- the numbers 0, .., n - 1
pub record AreFirst (n : ℕ) (xs : List ℕ) : Type 0 where
  pub count : length xs ≡ n
  pub each : (k : ℕ) → k < n → slice_index xs k ≡ k

-- the scaled linear cost, plus the duals for each other facility and each other location
abbrev pub own_entry : Problem → Duals → Placement → ℕ → ℕ → ℤ
own_entry I D x i k =
    (sum_but i (alpha_of D i k) (length D.facilities) +ℤ sum_but k (beta_of D i k) (length D.locations))
    +ℤ pos D.scale *ℤ linear_cost I x (slice_index D.facilities i) (slice_index D.locations k)
