-- The text of an answer with names.
use Rattle.std.specs.Prelude.{◌≡◌, ℕ, ◌+◌, Bool, nat_lt, List, length, map, take, ◌++◌, ℤ, int_lt, string_bytes}
use Rattle.plan_table.specs.Spelling.{Spells}
use Rattle.plan_file.specs.declared.tables.NamedProblem.{NamedProblem}
use Rattle.plan_answer.specs.Gap.{IsApartText}
use Rattle.plan_answer.specs.Lines.{empty_lines, kept_text, rounded_text, stands_lines, verdict_line}
use Rattle.plan_answer.specs.Listing.{IsListing}
use Rattle.plan_answer.specs.Pairs.{AreDearest}
use Rattle.plan_answer.specs.declared.pairs.Pair.{Pair}

-- the number of decimals of a cost
abbrev pub cost_scale : NamedProblem → ℕ
cost_scale P = P.flow_scale + P.distance_scale

-- the place of each department, and the places that stay empty
abbrev pub places_text : NamedProblem → List ℕ → List ℕ
places_text P p =
    stands_lines (map string_bytes P.departments.items) (map string_bytes P.places.items) p
    ++ empty_lines 0 (map string_bytes P.places.items) (take (length P.departments.items) p)

-- whether a department is fixed at a place
abbrev pub has_fixed : NamedProblem → Bool
has_fixed P = nat_lt 0 (length P.fixed.facilities)

-- how many of the costliest pairs an answer lists
abbrev pub told_pairs : ℕ
told_pairs = 5

-- what is proved about the cost, in the plan's own units
pub record IsVerdictText (P : NamedProblem) (c g : ℤ) (text : List ℕ) : Type 0 where
  pub cost : List ℕ
  pub bound : List ℕ
  pub apart : List ℕ
  pub spelled_cost : Spells cost c (cost_scale P)
  pub spelled_bound : Spells bound g (cost_scale P)
  pub told_apart : IsApartText c g apart
  pub is : text ≡ verdict_line (int_lt g c) cost bound (kept_text (has_fixed P)) apart

-- a line if the tables' numbers were rounded, and the costliest pairs
pub record IsPairsText (P : NamedProblem) (p : List ℕ) (text : List ℕ) : Type 0 where
  pub pairs : List Pair
  pub listing : List ℕ
  pub dearest : AreDearest P.instance p told_pairs pairs
  pub listed : IsListing (map string_bytes P.departments.items) (cost_scale P) pairs listing
  pub is : text ≡ rounded_text P.rounded ++ listing

-- the place of each department, what is proved about the cost, a line if numbers were rounded, and the costliest pairs
pub record IsAnswerText (P : NamedProblem) (p : List ℕ) (c g : ℤ) (text : List ℕ) : Type 0 where
  pub verdict : List ℕ
  pub listing : List ℕ
  pub proved : IsVerdictText P c g verdict
  pub dearest : IsPairsText P p listing
  pub is : text ≡ places_text P p ++ verdict ++ listing
