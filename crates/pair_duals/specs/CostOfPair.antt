-- The cost of a pair of facilities (Koopmans and Beckmann 1957).
use Rattle.std.specs.Prelude.{ℕ, ℤ, ◌+ℤ◌, ◌*ℤ◌}
use Rattle.qap_cost.specs.Instance.{Problem, entry}

-- facility i at location k with facility j at location l, in both directions
abbrev pub cost_of_pair : Problem → ℕ → ℕ → ℕ → ℕ → ℤ
cost_of_pair I i k j l =
    entry I.size I.a i j *ℤ entry I.size I.b k l +ℤ entry I.size I.a j i *ℤ entry I.size I.b l k
