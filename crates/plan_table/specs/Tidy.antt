-- Records without what spreadsheets add to them.
use Rattle.std.specs.Prelude.{ℕ, List, [], ◌∷◌, ◌++◌, map}
use Rattle.std.specs.Str.{trim}

-- a field before others, which is omitted if it is empty and none follows
abbrev pub before_filled : List ℕ → List (List ℕ) → List (List ℕ)
before_filled [] [] = []
before_filled [] (f ∷ fs) = [] ∷ f ∷ fs
before_filled (b ∷ bs) fs = (b ∷ bs) ∷ fs

-- fields without trailing empty ones
abbrev pub filled_front : List (List ℕ) → List (List ℕ)
filled_front [] = []
filled_front (f ∷ fs) = before_filled f (filled_front fs)

-- without white space around the fields either
abbrev pub tidied_record : List (List ℕ) → List (List ℕ)
tidied_record fields = filled_front (map trim fields)

-- a record, unless it is empty
abbrev pub unless_empty : List (List ℕ) → List (List (List ℕ))
unless_empty [] = []
unless_empty (f ∷ fs) = (f ∷ fs) ∷ []

-- the records of a text, each tidied, without the empty ones
abbrev pub tidied : List (List (List ℕ)) → List (List (List ℕ))
tidied [] = []
tidied (r ∷ rs) = unless_empty (tidied_record r) ++ tidied rs
