-- The text of an answer to a plan with costs of places or forbidden places.
use Rattle.std.specs.Prelude.{◌≡◌, Bool, not, List, [], ◌++◌, ℕ, ℤ, Option, Some, None, codes, int_lt, if◌then◌else◌}
use Rattle.plan_table.specs.Spelling.{Spells}
use Rattle.plan_file.specs.declared.tables.NamedProblem.{NamedProblem}
use Rattle.plan_answer.specs.Answer.{IsPairsText, cost_scale, has_fixed, places_text}
use Rattle.plan_answer.specs.Gap.{IsApartText}
use Rattle.plan_answer.specs.Lines.{kept_text, verdict_line}
use Rattle.plan_answer.specs.declared.charged.CostParts.{CostParts}

-- the arrangements that the proof covers: those that respect what is fixed and what is forbidden
abbrev pub scope_text : Bool → Bool → List ℕ
scope_text is_fixed is_forbidding =
    if not is_forbidding
    then kept_text is_fixed
    else (if is_fixed then codes " among arrangements that keep what is fixed and use no forbidden place" else codes " among arrangements that use no forbidden place")

-- what is proved about the cost, in the plan's own units
pub record IsChargedVerdict (P : NamedProblem) (is_forbidding : Bool) (c g : ℤ) (text : List ℕ) : Type 0 where
  pub cost : List ℕ
  pub bound : List ℕ
  pub apart : List ℕ
  pub spelled_cost : Spells cost c (cost_scale P)
  pub spelled_bound : Spells bound g (cost_scale P)
  pub told_apart : IsApartText c g apart
  pub is : text ≡ verdict_line (int_lt g c) cost bound (scope_text (has_fixed P) is_forbidding) apart

-- the line with both parts of the cost
pub record IsPartsLine (P : NamedProblem) (parts : CostParts) (text : List ℕ) : Type 0 where
  pub flows : List ℕ
  pub places : List ℕ
  pub spelled_flows : Spells flows parts.flows (cost_scale P)
  pub spelled_places : Spells places parts.places (cost_scale P)
  pub is : text ≡ codes "cost of flows " ++ flows ++ codes ", cost of places " ++ places ++ codes "\n"

-- that line, if the parts are given
abbrev pub IsPartsText : NamedProblem → Option CostParts → List ℕ → Type 0
IsPartsText P None text = text ≡ []
IsPartsText P (Some parts) text = IsPartsLine P parts text

-- the place of each department, what is proved about the cost, its parts, and the costliest pairs
pub record IsChargedText (P : NamedProblem) (p : List ℕ) (c g : ℤ) (parts : Option CostParts) (is_forbidding : Bool) (text : List ℕ) : Type 0 where
  pub verdict : List ℕ
  pub split : List ℕ
  pub listing : List ℕ
  pub proved : IsChargedVerdict P is_forbidding c g verdict
  pub divided : IsPartsText P parts split
  pub dearest : IsPairsText P p listing
  pub is : text ≡ places_text P p ++ verdict ++ split ++ listing
