-- The limits on instances and costs.
use Rattle.std.specs.Prelude.{ℕ, ◌^◌}

-- the greatest size
abbrev pub max_size : ℕ
max_size = 256

-- the greatest absolute value of an entry
abbrev pub max_entry : ℕ
max_entry = 10 ^ 9

-- the greatest absolute value of a stated cost, a bound or a dual
abbrev pub max_value : ℕ
max_value = 10 ^ 24
