-- Flows listed pair by pair: terms for their records.
use Rattle.std.specs.Prelude.{◌≡◌, ℕ, ◌+◌, ◌*◌, ◌<◌, List, [], ◌∷◌, length, take, ℤ, pos, codes, slice_index_or}
use Rattle.plan_table.specs.Names.{HasName}

-- the fields of the first line
abbrev pub trips_head : List (List ℕ)
trips_head = codes "from" ∷ codes "to" ∷ codes "amount" ∷ []

-- the name of a department, by its number
abbrev pub name_at : List (List ℕ) → ℕ → List ℕ
name_at names i = slice_index_or names i []

-- a record, by its number
abbrev pub row_at : List (List (List ℕ)) → ℕ → List (List ℕ)
row_at rows k = slice_index_or rows k []

-- the flow from one department to another, in a matrix by rows
abbrev pub flow_at : ℕ → List ℤ → ℕ → ℕ → ℤ
flow_at n entries i j = slice_index_or entries (i * n + j) (pos 0)

-- a record of two names and a word
abbrev pub pair_row : List ℕ → List ℕ → List ℕ → List (List ℕ)
pair_row from to word = from ∷ to ∷ word ∷ []

-- the words of records that name departments, in sequence
abbrev pub words_of : List (List (List ℕ)) → List (List ℕ)
words_of [] = []
words_of ((from ∷ to ∷ rest) ∷ rows) = from ∷ to ∷ words_of rows
words_of (short ∷ rows) = words_of rows

-- the names are those among the words, in order of first appearance
pub record AppearInOrder (words names : List (List ℕ)) : Type 0 where
  pub all : (k : ℕ) → k < length words → HasName names (slice_index_or words k [])
  pub first : (i : ℕ) → i < length names → (k : ℕ) × (k < length words) × (slice_index_or words k [] ≡ name_at names i) × ((j : ℕ) → j < k → HasName (take i names) (slice_index_or words j []))
