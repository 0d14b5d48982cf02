-- Distinct numbers.
use Rattle.std.specs.Prelude.{◌≢◌, ℕ, ◌<◌, List, slice_index}

-- each of the first n differs from those before it
abbrev pub AreApart : List ℕ → ℕ → Type 0
AreApart numbers n = (j : ℕ) → j < n → (i : ℕ) → i < j → slice_index numbers i ≢ slice_index numbers j
