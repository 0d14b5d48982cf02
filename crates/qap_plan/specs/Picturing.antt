-- The picture of an answer.
use Rattle.std.specs.Prelude.{ℕ, ℤ, List}
use Rattle.plan_file.specs.declared.tables.NamedProblem.{NamedProblem}
use Rattle.plan_answer.specs.Answer.{IsVerdictText}
use Rattle.plan_answer.specs.Stated.{IsStatedLine}
use Rattle.plan_picture.specs.Picture.{IsPicture}

-- a picture that says what is proved about the cost
pub record ShowsVerdict (P : NamedProblem) (p : List ℕ) (c g : ℤ) (title text : List ℕ) : Type 0 where
  pub verdict : List ℕ
  pub proved : IsVerdictText P c g verdict
  pub drawn : IsPicture P p title verdict text

-- a picture that says what is stated about the cost
pub record ShowsStated (P : NamedProblem) (p : List ℕ) (c g : ℤ) (title text : List ℕ) : Type 0 where
  pub words : List ℕ
  pub stated : IsStatedLine P c g words
  pub drawn : IsPicture P p title words text

-- the same with any title
pub record Pictures (P : NamedProblem) (p : List ℕ) (c g : ℤ) (text : List ℕ) : Type 0 where
  pub title : List ℕ
  pub shows : ShowsStated P p c g title text
