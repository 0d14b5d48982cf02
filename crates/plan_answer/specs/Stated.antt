-- The text of an answer whose bound is stated, not proved.
use Rattle.std.specs.Prelude.{◌≡◌, ℕ, Bool, List, ◌++◌, ℤ, codes, int_lt, if◌then◌else◌}
use Rattle.plan_table.specs.Spelling.{Spells}
use Rattle.plan_file.specs.declared.tables.NamedProblem.{NamedProblem}
use Rattle.plan_answer.specs.Answer.{IsPairsText, cost_scale, has_fixed, places_text}
use Rattle.plan_answer.specs.Lines.{kept_text}

-- the words for the bound, ` to `, and those for the cost
abbrev pub between : List ℕ → List ℕ → List ℕ
between cost bound = bound ++ codes " to " ++ cost

-- after the words for the cost: the stated bounds of the least one
abbrev pub stated_range : List ℕ → List ℕ → List ℕ → List ℕ
stated_range cost bound kept = codes ", stated within " ++ between cost bound ++ kept ++ codes "\n"

-- what is stated about the cost, from the words for the cost, its bound, and what is fixed
abbrev pub stated_line : Bool → List ℕ → List ℕ → List ℕ → List ℕ
stated_line is_open cost bound kept =
    if is_open
    then codes "cost " ++ cost ++ stated_range cost bound kept
    else codes "cost " ++ cost ++ codes ", stated as optimal" ++ kept ++ codes "\n"

-- what is stated about the cost, in the plan's own units
pub record IsStatedLine (P : NamedProblem) (c g : ℤ) (text : List ℕ) : Type 0 where
  pub cost : List ℕ
  pub bound : List ℕ
  pub spelled_cost : Spells cost c (cost_scale P)
  pub spelled_bound : Spells bound g (cost_scale P)
  pub is : text ≡ stated_line (int_lt g c) cost bound (kept_text (has_fixed P))

-- the place of each department, what is stated about the cost, and the costliest pairs
pub record IsStatedText (P : NamedProblem) (p : List ℕ) (c g : ℤ) (text : List ℕ) : Type 0 where
  pub line : List ℕ
  pub listing : List ℕ
  pub stated : IsStatedLine P c g line
  pub dearest : IsPairsText P p listing
  pub is : text ≡ places_text P p ++ line ++ listing

-- only the cost, in the plan's own units
pub record IsCostLine (P : NamedProblem) (c : ℤ) (text : List ℕ) : Type 0 where
  pub words : List ℕ
  pub spelled : Spells words c (cost_scale P)
  pub is : text ≡ codes "cost " ++ words ++ codes "\n"
