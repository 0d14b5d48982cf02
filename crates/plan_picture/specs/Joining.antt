-- Texts that are concatenated.
use Rattle.std.specs.Prelude.{◌≡◌, ℕ, suc, zero, List, [], ◌++◌}

-- f 0, .., f (n - 1), concatenated
abbrev pub joined_to : (ℕ → List ℕ) → ℕ → List ℕ
joined_to f zero = []
joined_to f (suc n) = joined_to f n ++ f n

-- n texts, the k-th of which has the property M k, concatenated
abbrev pub IsJoinedTo : (ℕ → List ℕ → Type 0) → ℕ → List ℕ → Type 0
IsJoinedTo M zero text = text ≡ []
IsJoinedTo M (suc n) text = (before : List ℕ) × (last : List ℕ) × IsJoinedTo M n before × M n last × (text ≡ before ++ last)
