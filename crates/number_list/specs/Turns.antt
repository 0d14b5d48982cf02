use Rattle.std.specs.Prelude.{ℕ, List, [], ◌∷◌, ℤ, pos}

-- the numbers of two rows alternately, up to the shorter one
abbrev pub by_turns : List ℕ → List ℕ → List ℤ
by_turns (f ∷ fs) (k ∷ ks) = pos f ∷ pos k ∷ by_turns fs ks
by_turns _ _ = []
