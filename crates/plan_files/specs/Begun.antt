-- The arrangement with which the search of a plan begins.
use Rattle.std.specs.Prelude.{◌≡◌, ◌⊎◌, ℕ, ℤ, List, None, Option, Some}
use Rattle.plan_check.specs.Answer.{IsAnswerToPlan}
use Rattle.plan_check.specs.Layout.{IsLayoutOf}
use Rattle.plan_file.specs.declared.tables.NamedProblem.{NamedProblem}
use Rattle.plan_files.specs.Sources.{IsTextIn}
use Rattle.plan_files.specs.Starting.{AreSolution}

-- the text is the JSON of an answer with this permutation
abbrev pub IsAnswered : NamedProblem → List ℕ → List ℕ → Type 0
IsAnswered P text p = (c : ℤ) × (g : ℤ) × IsAnswerToPlan P text p c g

-- the text lists this arrangement, is an answer with it, or is a solution
abbrev pub IsArrangementOf : NamedProblem → List ℕ → List ℕ → Type 0
IsArrangementOf P text p = IsLayoutOf P text p ⊎ (IsAnswered P text p ⊎ AreSolution text P.instance p)

-- the same of the text of a file
pub record IsArrangementIn (Holds : List ℕ → List ℕ → Type 0) (P : NamedProblem) (file p : List ℕ) : Type 0 where
  pub text : List ℕ
  pub read : IsTextIn Holds file text
  pub arrangement : IsArrangementOf P text p

-- the start is the arrangement in a file, if one is named
abbrev pub IsStartIn : (List ℕ → List ℕ → Type 0) → NamedProblem → Option (List ℕ) → Option (List ℕ) → Type 0
IsStartIn Holds P None start = start ≡ None
IsStartIn Holds P (Some file) (Some p) = IsArrangementIn Holds P file p
IsStartIn Holds P (Some file) None = ⊥
