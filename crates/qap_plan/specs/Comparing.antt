-- The comparison of today's arrangement with the best one.
use Rattle.std.specs.Prelude.{◌≡◌, ℕ, List, Option, Some, option_copied}
use Rattle.qap_io.specs.declared.status.Status.{Status}
use Rattle.plan_answer.specs.Compared.{IsComparedText}
use Rattle.plan_answer.specs.Layout.{layout_text}
use Rattle.plan_check.specs.Layout.{IsLayoutOf}
use Rattle.plan_file.specs.declared.tables.NamedProblem.{NamedProblem}
use Rattle.plan_input.specs.Loaded.{IsLoaded}
use Rattle.plan_input.specs.declared.loading.Loaded.{Loaded}
use Rattle.plan_search.specs.Keeping.{IsKept}
use Rattle.qap_plan.specs.Outcome.{status_of}
use Rattle.plan_files.specs.Outputs.{WritesFor}
use Rattle.plan_files.specs.Sources.{IsPlain, IsTextIn}
use Rattle.qap_plan.specs.declared.commands.compare.CompareRequest.{CompareRequest}
use Rattle.plan_search.specs.declared.planning.Planned.{Planned}

-- what a search from today's arrangement has found, and a text on both
pub record IsComparedIn (P : NamedProblem) (today : List ℕ) (best : Planned) (text : List ℕ) : Type 0 where
  pub kept : IsKept P.instance P.fixed (Some today) best.permutation best.cost best.bound
  pub told : IsComparedText P today best.permutation best.bound text

-- from a sink to a sink by that text, which is printed, and the table of the best arrangement, if it is requested; and how the run ends
pub record TellsComparison {S : Type 0} (Writes : S → List ℕ → List ℕ → S → Type 0) (Prints : S → List ℕ → S → Type 0) (csv : Option (List ℕ)) (P : NamedProblem) (best : Planned) (text : List ℕ) (status : Status) (old new : S) : Type 0 where
  pub printed : S
  pub on_output : Prints old text printed
  pub to_csv : WritesFor Writes csv (λ t. t ≡ layout_text P best.permutation) printed new
  pub ends : status ≡ status_of best.cost best.bound

-- from a sink to a sink by the comparison of an arrangement with the best one of a problem
pub record ComparesFrom {S : Type 0} (Writes : S → List ℕ → List ℕ → S → Type 0) (Prints : S → List ℕ → S → Type 0) (csv : Option (List ℕ)) (P : NamedProblem) (today : List ℕ) (status : Status) (old new : S) : Type 0 where
  pub best : Planned
  pub text : List ℕ
  pub compared : IsComparedIn P today best text
  pub tells : TellsComparison Writes Prints csv P best text status old new

-- the same of the arrangement in one file and the plan in another
pub record Compares {S : Type 0} (Holds : List ℕ → List ℕ → Type 0) (Writes : S → List ℕ → List ℕ → S → Type 0) (Prints : S → List ℕ → S → Type 0) (r : CompareRequest) (status : Status) (old new : S) : Type 0 where
  pub loaded : Loaded
  pub listed : List ℕ
  pub today : List ℕ
  pub read : IsLoaded Holds r.file.now loaded
  pub plain : IsPlain loaded
  pub held : IsTextIn Holds r.today.now listed
  pub layout : IsLayoutOf loaded.problem listed today
  pub compares : ComparesFrom Writes Prints (option_copied r.csv) loaded.problem today status old new
