-- What facilities pay for their locations: the linear term of Koopmans and Beckmann (1957).
use Rattle.std.specs.Prelude.{ℕ, ◌+◌, ◌*◌, ◌≡◌, ◌<◌, ◌≤◌, List, length, ℤ, pos, ◌+ℤ◌, ◌*ℤ◌, slice_index, slice_index_or}
use Rattle.qap_cost.specs.Instance.{InRange, Problem}
use Rattle.qap_cost.specs.Limits.{max_size}
use Rattle.qap_cost.specs.Objective.{cost_of}
use Rattle.qap_cost.specs.Sum.{sum_to}
use Rattle.plan_charge.specs.declared.charges.Charges.{Charges}

-- of n facilities the first pay, for which there is room among 256: a row each, with an entry for each of n locations
pub record AreCharges (n : ℕ) (c : Charges) : Type 0 where
  pub payers : c.count ≤ n
  pub room : n + c.count ≤ max_size
  pub counted : length c.entries.items ≡ c.count * n
  pub weight : InRange c.weight
  pub ranges : (k : ℕ) → k < c.count * n → InRange (slice_index_or c.entries.items k (pos 0))

-- entry k of row i
abbrev pub charge_at : ℕ → Charges → ℕ → ℕ → ℤ
charge_at n c i k = slice_index_or c.entries.items (i * n + k) (pos 0)

-- what facility i pays at location k
abbrev pub charge_of : ℕ → Charges → ℕ → ℕ → ℤ
charge_of n c i k = c.weight *ℤ charge_at n c i k

-- what facility i pays at the location that p gives it
abbrev pub paid : ℕ → Charges → List ℕ → ℕ → ℤ
paid n c p i = charge_of n c i (slice_index p i)

-- what all pay
abbrev pub charged : ℕ → Charges → List ℕ → ℤ
charged n c p = sum_to (paid n c p) c.count

-- the cost of a permutation of the instance, and what the facilities pay
abbrev pub cost_with : Problem → Charges → List ℕ → ℤ
cost_with I c p = cost_of I p +ℤ charged I.size c p
