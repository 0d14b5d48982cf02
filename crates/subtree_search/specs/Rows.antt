-- The rows of pair duals, as a text lists them.
use Rattle.std.specs.Prelude.{ℕ, ◌-◌, ◌*◌, ◌/◌, ◌%◌, List, length, map, ℤ, nat_lt, if◌then◌else◌}
use Rattle.std.specs.List.{range_with_len}
use Rattle.pair_duals.specs.PairDuals.{Duals, alpha_of, beta_of}
use Rattle.pair_duals.specs.Reduced.{past}
use Rattle.proof_tree.specs.Tree.{PairRows}

-- the t-th of those of the i-th facility at the k-th location: for each other facility, and then for each other location
abbrev pub dual_in_row : Duals → ℕ → ℕ → ℕ → ℤ
dual_in_row D i k t =
    if nat_lt t (length D.facilities - 1) then alpha_of D i k (past i t) else beta_of D i k (past k (t - (length D.facilities - 1)))

-- the first n of them
abbrev pub first_of_row : Duals → ℕ → ℕ → ℕ → List ℤ
first_of_row D i k n = map (dual_in_row D i k) (range_with_len 0 n)

-- all of them, for row number s, where all locations of one facility come before the next facility
abbrev pub row_at : Duals → ℕ → List ℤ
row_at D s = first_of_row D (s / length D.facilities) (s % length D.facilities) (2 * (length D.facilities - 1))

-- the first n rows
abbrev pub first_rows : Duals → ℕ → List (List ℤ)
first_rows D n = map (row_at D) (range_with_len 0 n)

-- all rows, with their scale
abbrev pub rows_of : Duals → PairRows
rows_of D = record { scale = D.scale; rows = first_rows D (length D.facilities * length D.facilities) }
