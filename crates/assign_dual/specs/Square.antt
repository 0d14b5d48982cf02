-- A matrix as its size and its entries.
use Rattle.std.specs.Prelude.{ℕ, List, ℤ}
use Rattle.qap_cost.specs.Matrix.{Square}

-- the matrix of size n with these entries, listed by rows
abbrev pub square_of : ℕ → List ℤ → Square
square_of n entries = record { size = n; entries = entries }
