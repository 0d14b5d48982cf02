-- By how much the costs of two permutations may differ.
use Rattle.std.specs.Prelude.{ℕ, suc, zero, ◌*◌, ℤ, pos, ◌+ℤ◌, ◌-ℤ◌, ◌*ℤ◌, slice_index_or, unsigned_abs}
use Rattle.std.specs.Int.{int_max, int_min}
use Rattle.qap_cost.specs.Instance.{Problem}
use Rattle.qap_cost.specs.Sum.{sum_to}
use Rattle.plan_charge.specs.Charges.{charge_of}
use Rattle.plan_charge.specs.declared.charges.Charges.{Charges}

-- the greatest of f 0, .., f (n - 1), where n is positive
abbrev pub greatest_to : (ℕ → ℤ) → ℕ → ℤ
greatest_to f zero = f 0
greatest_to f (suc n) = int_max (greatest_to f n) (f n)

-- the least of them
abbrev pub least_to : (ℕ → ℤ) → ℕ → ℤ
least_to f zero = f 0
least_to f (suc n) = int_min (least_to f n) (f n)

-- the absolute value of the flow of number k, by rows
abbrev pub flow_size : Problem → ℕ → ℤ
flow_size I k = pos (unsigned_abs (slice_index_or I.a k (pos 0)))

-- the distance of number k, by rows
abbrev pub distance_at : Problem → ℕ → ℤ
distance_at I k = slice_index_or I.b k (pos 0)

-- the greatest distance less the least
abbrev pub distance_range : Problem → ℤ
distance_range I = greatest_to (distance_at I) (I.size * I.size) -ℤ least_to (distance_at I) (I.size * I.size)

-- the most that facility i may pay less the least
abbrev pub charge_range : ℕ → Charges → ℕ → ℤ
charge_range n c i = greatest_to (charge_of n c i) n -ℤ least_to (charge_of n c i) n

-- each flow's size times the range of the distances, and the ranges of what the facilities pay
abbrev pub spread : Problem → Charges → ℤ
spread I c = distance_range I *ℤ sum_to (flow_size I) (I.size * I.size) +ℤ sum_to (charge_range I.size c) c.count
