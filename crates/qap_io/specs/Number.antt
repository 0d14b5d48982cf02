-- Numbers clamped to a range, so that a number of any length has a value in it, and numbers counted from 1.
use Rattle.std.specs.Prelude.{ℕ, suc, ◌+◌, List, map, min, ℤ, pos, negsuc, neg_ℤ}

-- the nearest number from -bound to bound
abbrev pub held : ℕ → ℤ → ℤ
held bound (pos n) = pos (min n bound)
held bound (negsuc n) = neg_ℤ (pos (min (suc n) bound))

-- numbers counted from 0, as texts count them, from 1
abbrev pub from_one : List ℕ → List ℤ
from_one numbers = map (λ k. pos (k + 1)) numbers
