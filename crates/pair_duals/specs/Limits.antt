-- The limits on the numbers of a width under which no sum overflows.
use Rattle.std.specs.Prelude.{ℕ, ◌+◌, ◌*◌, ◌^◌, ◌<◌, ◌≤◌, Bool, if◌then◌else◌}

-- the greatest size of an instance; and the limits, in absolute value, of a scaled product of two entries; of a dual, or a number of a line;
-- of a pair's residual; of an entry of a node's own form; of an entry of any form; and of a sum
pub record Limits : Type 0 where
  pub size : ℕ
  pub cost : ℕ
  pub dual : ℕ
  pub pair : ℕ
  pub start : ℕ
  pub reach : ℕ
  pub sum : ℕ

-- a pair has two scaled products and four duals; a node's own entry has one product for itself, two for each placed facility, and two
-- duals for each free one; a child adds a pair's residual, and a line subtracts a number and a difference of two entries
pub record AreEnough (m : Limits) : Type 0 where
  pub pair : 2 * m.cost + 4 * m.dual ≤ m.pair
  pub start : 2 * (m.size * (m.cost + m.dual)) ≤ m.start
  pub reach : 2 * m.start + (m.size + 1) * (2 * m.pair + 2 * m.dual) + 2 * m.dual ≤ m.reach
  pub sum : 2 * m.reach ≤ m.sum
  pub value : 2 * (m.size * m.sum) ≤ 10 ^ 34
  pub positive : 0 < m.size
  pub small : m.size ≤ 256

-- bounds on entries and on their differences, this many children below a node, with or without a line applied
abbrev pub reach : Limits → ℕ → Bool → ℕ
reach m depth is_lined = 2 * m.start + depth * (2 * m.pair + 2 * m.dual) + (if is_lined then 2 * m.dual else 0)
