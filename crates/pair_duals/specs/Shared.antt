-- What the entries of a column of a child share.
use Rattle.std.specs.Prelude.{ℕ, List, ℤ, slice_index}
use Rattle.qap_cost.specs.Instance.{Problem, entry}
use Rattle.pair_duals.specs.PairDuals.{Duals, beta_of}

-- the entry of B from the location of column c to the l-th location
abbrev pub entry_to : Problem → Duals → List ℕ → ℕ → ℕ → ℤ
entry_to I D columns l c = entry I.size I.b (slice_index D.locations (slice_index columns c)) (slice_index D.locations l)

-- and in reverse
abbrev pub entry_from : Problem → Duals → List ℕ → ℕ → ℕ → ℤ
entry_from I D columns l c = entry I.size I.b (slice_index D.locations l) (slice_index D.locations (slice_index columns c))

-- the dual of the j-th facility at the l-th location for the location of column c
abbrev pub beta_along : Duals → List ℕ → ℕ → ℕ → ℕ → ℤ
beta_along D columns j l c = beta_of D j l (slice_index columns c)
