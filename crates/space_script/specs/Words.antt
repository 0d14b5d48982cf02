-- The words of a line.
use Rattle.std.specs.Prelude.{ℕ, Bool, ◌==◌, ◌||◌, not, List, length, filter}
use Rattle.std.specs.List.{slice_split}

-- a space or a tab
abbrev pub is_blank : ℕ → Bool
is_blank byte = (byte == 32) || (byte == 9)

-- the words of a line: what is between its blanks
abbrev pub words_of : List ℕ → List (List ℕ)
words_of line = filter (λ piece. not (length piece == 0)) (slice_split is_blank line)
