-- The numbers of a list by position.
use Rattle.std.specs.Prelude.{ℕ, List, ℤ, pos, slice_index_or}

-- the number at a position, and 0 past the list's end
abbrev pub number_at : List ℤ → ℕ → ℤ
number_at xs k = slice_index_or xs k (pos 0)
