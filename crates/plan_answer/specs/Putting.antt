-- How a pair is inserted among the costliest.
use Rattle.std.specs.Prelude.{ℕ, List, [], ◌∷◌, take, pos, int_lt, if◌then◌else◌}
use Rattle.plan_answer.specs.declared.pairs.Pair.{Pair}

-- a pair before the first that costs less
abbrev pub with_pair : Pair → List Pair → List Pair
with_pair x [] = x ∷ []
with_pair x (y ∷ ys) = if int_lt y.cost x.cost then x ∷ y ∷ ys else y ∷ with_pair x ys

-- at most this many of the listed pairs and a new one, if that costs something
abbrev pub kept_with : ℕ → Pair → List Pair → List Pair
kept_with most x xs = if int_lt (pos 0) x.cost then take most (with_pair x xs) else xs
