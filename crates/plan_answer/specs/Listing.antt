-- The lines of the costliest pairs.
use Rattle.std.specs.Prelude.{◌≡◌, ℕ, List, [], ◌∷◌, ◌++◌, codes, slice_index_or}
use Rattle.plan_table.specs.Spelling.{Spells}
use Rattle.plan_answer.specs.declared.pairs.Pair.{Pair}

-- the flow from one department to another costs this
abbrev pub pair_line : List ℕ → List ℕ → List ℕ → List ℕ
pair_line from to cost = from ++ codes " to " ++ to ++ codes ": " ++ cost ++ codes "\n"

-- a line for each pair, in order: with the names of its two departments, where a dummy has none, and its cost,
-- in units with this many decimals
abbrev pub ArePairLines : List (List ℕ) → ℕ → List Pair → List ℕ → Type 0
ArePairLines names scale [] text = text ≡ []
ArePairLines names scale (x ∷ xs) text =
    (cost : List ℕ) × (rest : List ℕ) × Spells cost x.cost scale × ArePairLines names scale xs rest
    × (text ≡ pair_line (slice_index_or names x.from []) (slice_index_or names x.to []) cost ++ rest)

-- the heading of the lines, if there are any
abbrev pub heading : List Pair → List ℕ
heading [] = []
heading (x ∷ xs) = codes "dearest pairs:\n"

-- the heading, and a line for each pair
pub record IsListing (names : List (List ℕ)) (scale : ℕ) (xs : List Pair) (text : List ℕ) : Type 0 where
  pub lines : List ℕ
  pub each : ArePairLines names scale xs lines
  pub is : text ≡ heading xs ++ lines
