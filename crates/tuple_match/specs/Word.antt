use Rattle.std.specs.Prelude.{ℕ, ◌≤◌, ◌≡◌, ◌⊎◌, List, [], ◌∷◌, length, All}

-- a letter a to z
abbrev pub IsLetter : ℕ → Type 0
IsLetter byte = (97 ≤ byte) × (byte ≤ 122)

-- a digit 0 to 9
abbrev pub IsDigit : ℕ → Type 0
IsDigit byte = (48 ≤ byte) × (byte ≤ 57)

-- what may follow a word's first letter: a letter, a digit or an underscore
abbrev pub IsWordByte : ℕ → Type 0
IsWordByte byte = IsLetter byte ⊎ (IsDigit byte ⊎ (byte ≡ 95))

-- a word, by this project's own rule: a letter, then at most 31 letters, digits and underscores
abbrev pub IsWord : List ℕ → Type 0
IsWord [] = ⊥
IsWord (first ∷ rest) = IsLetter first × (length rest ≤ 31) × All IsWordByte rest
