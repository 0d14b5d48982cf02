-- What the outputs of a run tell.
use Rattle.std.specs.Prelude.{◌≡◌, ℕ, ℤ, List, [], int_lt, if◌then◌else◌}
use Rattle.qap_io.specs.declared.status.Status.{Status}
use Rattle.qap_io.specs.declared.status.Status.TheVariants.{Done, Stopped}
use Rattle.plan_answer.specs.Answer.{IsAnswerText}
use Rattle.plan_answer.specs.Layout.{layout_text}
use Rattle.plan_check.specs.Answer.{StatesFound, StatesPlanned}
use Rattle.plan_file.specs.declared.tables.NamedProblem.{NamedProblem}
use Rattle.plan_report.specs.Page.{IsPage}
use Rattle.plan_report.specs.declared.page.Report.{Report}
use Rattle.qap_plan.specs.Answer.{answer_text}
use Rattle.qap_plan.specs.Picturing.{ShowsVerdict}
use Rattle.qap_plan.specs.declared.output.outcome.Kind.{Kind}
use Rattle.qap_plan.specs.declared.output.outcome.Kind.TheVariants.{Answer, Json, Table, Picture, Report as InReport}
use Rattle.plan_search.specs.declared.planning.Planned.{Planned}

-- how a run ends that has found an arrangement with this cost and this bound: early if the bound is smaller
abbrev pub status_of : ℤ → ℤ → Status
status_of c g = if int_lt g c then Stopped else Done

-- an output of an answer to a plan tells its permutation, its cost and its bound
abbrev pub TellsPlan : NamedProblem → Planned → Kind → List ℕ → Type 0
TellsPlan P x Answer text = IsAnswerText P x.permutation x.cost x.bound text
TellsPlan P x Json text = StatesPlanned P text x.permutation x.cost x.bound
TellsPlan P x Table text = text ≡ layout_text P x.permutation
TellsPlan P x Picture text = (title : List ℕ) × ShowsVerdict P x.permutation x.cost x.bound title text
TellsPlan P x InReport text = (report : Report) × IsPage P x.permutation x.cost x.bound report text

-- likewise of an answer to an instance, which has neither table nor picture nor report
abbrev pub TellsFound : Planned → Kind → List ℕ → Type 0
TellsFound x Answer text = text ≡ answer_text x.permutation x.cost x.bound
TellsFound x Json text = StatesFound text x.permutation x.cost x.bound
TellsFound x other text = text ≡ []
