-- The rows of the costliest pairs.
use Rattle.std.specs.Prelude.{◌≡◌, ℕ, List, [], ◌∷◌, codes, length, map, slice_index_or, string_bytes}
use Rattle.std.specs.List.{concat}
use Rattle.std.specs.Str.Lossy.{utf8_lossy}
use Rattle.plan_table.specs.Spelling.{Spells}
use Rattle.plan_file.specs.declared.tables.NamedProblem.{NamedProblem}
use Rattle.plan_answer.specs.Answer.{cost_scale}
use Rattle.plan_answer.specs.Pairs.{AreDearest}
use Rattle.plan_answer.specs.declared.pairs.Pair.{Pair}
use Rattle.plan_picture.specs.Arrows.{no_pair}
use Rattle.plan_picture.specs.Escaping.{escaped}
use Rattle.plan_picture.specs.Joining.{IsJoinedTo}
use Rattle.plan_report.specs.Rows.{cell, row_end, row_start}

-- the name of department i; a dummy has none
abbrev pub department_name : NamedProblem → ℕ → List ℕ
department_name P i = slice_index_or (map string_bytes P.departments.items) i []

-- between a cell and a number's
abbrev pub number_cell : List ℕ
number_cell = codes "</td><td class=\"number\">"

-- the names of two departments, and their cost in the plan's own units
pub record IsPairRow (P : NamedProblem) (pair : Pair) (text : List ℕ) : Type 0 where
  pub cost : List ℕ
  pub spelled : Spells cost pair.cost (cost_scale P)
  pub is :
      text
      ≡ concat
      (row_start
      ∷ escaped (department_name P pair.from)
      ∷ cell
      ∷ escaped (department_name P pair.to)
      ∷ number_cell
      ∷ escaped (utf8_lossy cost)
      ∷ row_end
      ∷ [])

-- how many of the costliest pairs a report lists
abbrev pub listed_pairs : ℕ
listed_pairs = 10

-- a row for each of the costliest pairs
pub record ArePairRows (P : NamedProblem) (p : List ℕ) (text : List ℕ) : Type 0 where
  pub pairs : List Pair
  pub dearest : AreDearest P.instance p listed_pairs pairs
  pub each : IsJoinedTo (λ k. IsPairRow P (slice_index_or pairs k no_pair)) (length pairs) text
