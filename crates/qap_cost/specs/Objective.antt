-- The cost of a permutation, and the least cost: the objective of Koopmans and Beckmann (1957) as the library of
-- instances QAPLIB (Burkard, Karisch and Rendl 1997) writes it.
use Rattle.std.specs.Prelude.{◌≡◌, ℕ, List, length, ℤ, ◌*ℤ◌, ◌≤ℤ◌, slice_index}
use Rattle.qap_cost.specs.Sum.{sum_to}
use Rattle.qap_cost.specs.Bijection.{IsBijection}
use Rattle.qap_cost.specs.Instance.{Problem, entry}

-- the cost of facilities i and j at the locations that p gives them
abbrev pub pair_cost : Problem → List ℕ → ℕ → ℕ → ℤ
pair_cost I p i j = entry I.size I.a i j *ℤ entry I.size I.b (slice_index p i) (slice_index p j)

-- the cost of facility i together with each facility j
abbrev pub row_cost : Problem → List ℕ → ℕ → ℤ
row_cost I p i = sum_to (pair_cost I p i) I.size

-- the double sum over all i and j, including i = j
abbrev pub cost_of : Problem → List ℕ → ℤ
cost_of I p = sum_to (row_cost I p) I.size

-- the instance with its two matrices exchanged
abbrev pub exchanged : Problem → Problem
exchanged I = record { size = I.size; a = I.b; b = I.a }

-- a permutation that gives each facility of the instance a distinct location
pub record Permutes (I : Problem) (p : List ℕ) : Type 0 where
  pub bijection : IsBijection p
  pub same_size : length p ≡ I.size

-- no permutation costs less than c
abbrev pub NoneCostsLess : Problem → ℤ → Type 0
NoneCostsLess I c = (p : List ℕ) → Permutes I p → c ≤ℤ cost_of I p

-- some permutation costs c, and none costs less
pub record IsLeast (I : Problem) (c : ℤ) : Type 0 where
  pub reached : (p : List ℕ) × Permutes I p × (cost_of I p ≡ c)
  pub least : NoneCostsLess I c
