-- Exchanges of the locations of two facilities (Armour and Buffa 1963), and the permutations that none of them improves.
use Rattle.std.specs.Prelude.{ℕ, ◌<◌, if◌then◌else◌, nat_eq, List, ◌≤ℤ◌, slice_index, slice_set}
use Rattle.qap_cost.specs.Instance.{Problem}
use Rattle.qap_cost.specs.Objective.{cost_of}

-- facilities r and s with their locations exchanged, the others unchanged
abbrev pub exchanging : List ℕ → ℕ → ℕ → List ℕ
exchanging p r s = slice_set (slice_set p r (slice_index p s)) s (slice_index p r)

-- the facility whose location facility k takes
abbrev pub partner : ℕ → ℕ → ℕ → ℕ
partner r s k = if nat_eq k r then s else (if nat_eq k s then r else k)

-- no exchange of two facilities' locations costs less
abbrev pub IsLocallyLeast : Problem → List ℕ → Type 0
IsLocallyLeast I p = (r s : ℕ) → r < s → s < I.size → cost_of I p ≤ℤ cost_of I (exchanging p r s)
