-- The least sum of products of two lists over all ways to pair their numbers: the minimal scalar product of Gilmore
-- (1962) and Lawler (1963), by the rearrangement inequality of Hardy, Littlewood and Polya (1934).
use Rattle.std.specs.Prelude.{◌≡◌, ℕ, List, length, ℤ, ◌≤ℤ◌}
use Rattle.qap_cost.specs.Sum.{sum_to}
use Rattle.qap_cost.specs.Bijection.{IsBijection}
use Rattle.qap_cost.specs.Row.{product_at}

-- p pairs the number at each position j of one list with the number at p(j) of the other
pub record Pairs (xs ys : List ℤ) (p : List ℕ) : Type 0 where
  pub bijection : IsBijection p
  pub left : length p ≡ length xs
  pub right : length p ≡ length ys

-- the sum over all j of xs(j) * ys(p(j))
abbrev pub paired_sum : List ℤ → List ℤ → List ℕ → ℤ
paired_sum xs ys p = sum_to (product_at xs ys p) (length xs)

-- some pairing has this sum, and none has a smaller one
pub record IsLeastProduct (xs ys : List ℤ) (r : ℤ) : Type 0 where
  pub reached : (p : List ℕ) × Pairs xs ys p × (paired_sum xs ys p ≡ r)
  pub least : (p : List ℕ) → Pairs xs ys p → r ≤ℤ paired_sum xs ys p
