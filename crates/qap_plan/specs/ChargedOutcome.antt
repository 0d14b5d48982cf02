-- What the outputs of a run on a plan with costs of places or forbidden places tell.
use Rattle.std.specs.Prelude.{◌≡◌, ℕ, ℤ, Bool, List, []}
use Rattle.plan_answer.specs.Charged.{IsChargedVerdict}
use Rattle.plan_answer.specs.Layout.{layout_text}
use Rattle.plan_check.specs.Answer.{StatesPlanned}
use Rattle.plan_file.specs.declared.tables.NamedProblem.{NamedProblem}
use Rattle.plan_picture.specs.Picture.{IsPicture}
use Rattle.qap_plan.specs.declared.commands.charged_answer.ChargedAnswer.{ChargedAnswer}
use Rattle.qap_plan.specs.declared.output.outcome.Kind.{Kind}
use Rattle.qap_plan.specs.declared.output.outcome.Kind.TheVariants.{Answer, Json, Table, Picture, Report}

-- a picture that says what is proved about the cost
pub record PicturesCharged (P : NamedProblem) (p : List ℕ) (c g : ℤ) (text : List ℕ) : Type 0 where
  pub title : List ℕ
  pub is_forbidding : Bool
  pub verdict : List ℕ
  pub proved : IsChargedVerdict P is_forbidding c g verdict
  pub drawn : IsPicture P p title verdict text

-- an output of an answer to such a plan tells its permutation, its cost and its bound, or is its text
abbrev pub TellsCharged : NamedProblem → ChargedAnswer → Kind → List ℕ → Type 0
TellsCharged P a Answer text = text ≡ a.text.items
TellsCharged P a Json text = StatesPlanned P text a.planned.permutation a.planned.cost a.planned.bound
TellsCharged P a Table text = text ≡ layout_text P a.planned.permutation
TellsCharged P a Picture text = PicturesCharged P a.planned.permutation a.planned.cost a.planned.bound text
TellsCharged P a Report text = text ≡ []
