-- A comparison of today's arrangement with the best one.
use Rattle.std.specs.Prelude.{◌≡◌, ℕ, ◌+◌, ◌*◌, ◌/◌, ◌==◌, Bool, ◌&&◌, not, MatchBool, List, [], ◌∷◌, ◌++◌, length, map, ℤ, pos, ◌-ℤ◌, int_lt, unsigned_abs, codes, if◌then◌else◌, slice_index_or, string_bytes}
use Rattle.std.specs.Fmt.{decimal}
use Rattle.qap_cost.specs.Objective.{cost_of}
use Rattle.plan_table.specs.Spelling.{Spells}
use Rattle.plan_file.specs.declared.tables.NamedProblem.{NamedProblem}
use Rattle.plan_answer.specs.Answer.{cost_scale, has_fixed}
use Rattle.plan_answer.specs.Lines.{kept_text}

-- the percentage is stated if today's cost is positive and no lower than the best
abbrev pub is_saving : ℤ → ℤ → Bool
is_saving today best = int_lt (pos 0) today && not (int_lt today best)

-- (today - best) / today in tenths of a percent, rounded down
abbrev pub tenths_less : ℤ → ℤ → ℕ
tenths_less today best = unsigned_abs (today -ℤ best) * 1000 / unsigned_abs today

-- this number of tenths of a percent
pub record IsSavingText (tenths : ℤ) (text : List ℕ) : Type 0 where
  pub percent : List ℕ
  pub spelled : Spells percent tenths 1
  pub is : text ≡ codes " (" ++ percent ++ codes "% less)"

-- the percentage if it is stated, else nothing
abbrev pub IsLessText : ℤ → ℤ → List ℕ → Type 0
IsLessText today best text = MatchBool (is_saving today best) (IsSavingText (pos (tenths_less today best)) text) (text ≡ [])

-- the words for both costs, and how much less the second is
abbrev pub costs_of : List ℕ → List ℕ → List ℕ → List ℕ
costs_of today best less = today ++ codes ", best " ++ best ++ less

-- what is proved about the best if it is not known to be optimal
abbrev pub open_text : List ℕ → List ℕ → List ℕ → List ℕ
open_text best bound kept = codes ", within " ++ bound ++ codes " to " ++ best ++ kept ++ codes ", proved"

-- what is proved about the best
abbrev pub proved_text : Bool → List ℕ → List ℕ → List ℕ → List ℕ
proved_text is_open best bound kept =
    if is_open then open_text best bound kept else codes ", optimal" ++ kept ++ codes ", proved"

-- the costs of the two arrangements in the plan's own units, and what is proved about the best
pub record IsCostsText (P : NamedProblem) (t b g : ℤ) (text : List ℕ) : Type 0 where
  pub today : List ℕ
  pub best : List ℕ
  pub bound : List ℕ
  pub less : List ℕ
  pub spelled_today : Spells today t (cost_scale P)
  pub spelled_best : Spells best b (cost_scale P)
  pub spelled_bound : Spells bound g (cost_scale P)
  pub told_less : IsLessText t b less
  pub is : text ≡ (codes "today " ++ costs_of today best less) ++ proved_text (int_lt g b) best bound (kept_text (has_fixed P))

-- the number of departments whose places differ
abbrev pub moved_count : List (List ℕ) → List ℕ → List ℕ → ℕ
moved_count [] today best = 0
moved_count (d ∷ ds) [] best = 0
moved_count (d ∷ ds) (j ∷ js) [] = 0
moved_count (d ∷ ds) (j ∷ js) (k ∷ ks) = (if j == k then 0 else 1) + moved_count ds js ks

-- a department moves from one place to another
abbrev pub move_line : List ℕ → List ℕ → List ℕ → List ℕ
move_line department from to = department ++ codes ": " ++ from ++ codes " to " ++ to ++ codes "\n"

-- a line for each department that moves
abbrev pub move_lines : List (List ℕ) → List (List ℕ) → List ℕ → List ℕ → List ℕ
move_lines [] places today best = []
move_lines (d ∷ ds) places [] best = []
move_lines (d ∷ ds) places (j ∷ js) [] = []
move_lines (d ∷ ds) places (j ∷ js) (k ∷ ks) =
    (if j == k then [] else move_line d (slice_index_or places j []) (slice_index_or places k [])) ++ move_lines ds places js ks

-- how many departments move
abbrev pub count_line : ℕ → ℕ → List ℕ
count_line moved all = codes "; " ++ decimal moved ++ codes " of " ++ decimal all ++ codes " move\n"

-- the costs of the two arrangements, what is proved about the second, and which departments move
pub record IsComparedText (P : NamedProblem) (today best : List ℕ) (g : ℤ) (text : List ℕ) : Type 0 where
  pub costs : List ℕ
  pub told : IsCostsText P (cost_of P.instance today) (cost_of P.instance best) g costs
  pub is : text ≡ (costs ++ count_line (moved_count (map string_bytes P.departments.items) today best) (length P.departments.items))
      ++ move_lines (map string_bytes P.departments.items) (map string_bytes P.places.items) today best
