-- What `solve` answers.
use Rattle.std.specs.Borrow.{Bor}
use Rattle.std.specs.Prelude.{◌≡◌, ◌⊎◌, ℕ, Bool, List, Option, option_copied}
use Rattle.qap_cost.specs.Instance.{Problem}
use Rattle.qap_cost.specs.Placement.{root_of}
use Rattle.qap_io.specs.declared.status.Status.{Status}
use Rattle.qap_text.specs.Input.{Input}
use Rattle.plan_file.specs.declared.tables.NamedProblem.{NamedProblem}
use Rattle.plan_input.specs.Loaded.{IsLoaded}
use Rattle.plan_input.specs.declared.loading.Loaded.{Loaded}
use Rattle.qap_plan.specs.Answers.{Answers}
use Rattle.plan_files.specs.Begun.{IsStartIn}
use Rattle.qap_plan.specs.ChargedAnswer.{IsChargedAnswer}
use Rattle.qap_plan.specs.ChargedOutcome.{TellsCharged}
use Rattle.plan_search.specs.Keeping.{IsKept}
use Rattle.qap_plan.specs.Outcome.{TellsFound, TellsPlan, status_of}
use Rattle.qap_plan.specs.Proofs.{HasSame, Is, ShowsCharged, ShowsFor}
use Rattle.plan_search.specs.Planning.{IsPlanned}
use Rattle.plan_files.specs.Reading.{HasOneInstance}
use Rattle.plan_files.specs.Sources.{IsGivenIn, IsPlain}
use Rattle.plan_files.specs.Starting.{IsStartOf}
use Rattle.qap_plan.specs.declared.commands.charged_answer.ChargedAnswer.{ChargedAnswer}
use Rattle.qap_plan.specs.declared.commands.command_line.Request.{Request}
use Rattle.plan_search.specs.declared.planning.Planned.{Planned}

-- from a sink to a sink by an answer to a problem with names: what a search of the arrangements that respect what is fixed has found from
-- a start, if there is one, in each output that is requested; and how the run ends
pub record TellsAnswer {S : Type 0} (Writes : S → List ℕ → List ℕ → S → Type 0) (Prints : S → List ℕ → S → Type 0) (r : Request) (P : NamedProblem) (start : Option (List ℕ)) (status : Status) (old new : S) : Type 0 where
  pub answer : Planned
  pub kept : IsKept P.instance P.fixed start answer.permutation answer.cost answer.bound
  pub outputs : Answers Writes Prints r (TellsPlan P answer) (ShowsFor P.instance (HasSame P.fixed) answer.permutation answer.cost answer.bound) old new
  pub ends : status ≡ status_of answer.cost answer.bound

-- likewise to a plan with costs of places or forbidden places
pub record TellsAnswerCharged {S : Type 0} (Writes : S → List ℕ → List ℕ → S → Type 0) (Prints : S → List ℕ → S → Type 0) (r : Request) (l : Loaded) (start : Option (List ℕ)) (status : Status) (old new : S) : Type 0 where
  pub answer : ChargedAnswer
  pub found : IsChargedAnswer l.problem l.charges l.forbidden start answer
  pub outputs : Answers Writes Prints r (TellsCharged l.problem answer)
      (ShowsCharged l.problem.instance l.problem.fixed l.charges l.forbidden answer.planned.permutation answer.planned.cost answer.planned.bound) old new
  pub ends : status ≡ status_of answer.planned.cost answer.planned.bound

-- the same from the start that is named, if one is
pub record IsAnsweredPlan {S : Type 0} (Holds : List ℕ → List ℕ → Type 0) (Writes : S → List ℕ → List ℕ → S → Type 0) (Prints : S → List ℕ → S → Type 0) (r : Request) (P : NamedProblem) (status : Status) (old new : S) : Type 0 where
  pub start : Option (List ℕ)
  pub begins : IsStartIn Holds P (option_copied r.start) start
  pub tells : TellsAnswer Writes Prints r P start status old new

-- likewise
pub record IsAnsweredCharged {S : Type 0} (Holds : List ℕ → List ℕ → Type 0) (Writes : S → List ℕ → List ℕ → S → Type 0) (Prints : S → List ℕ → S → Type 0) (r : Request) (l : Loaded) (status : Status) (old new : S) : Type 0 where
  pub start : Option (List ℕ)
  pub begins : IsStartIn Holds l.problem (option_copied r.start) start
  pub tells : TellsAnswerCharged Writes Prints r l start status old new

-- from a sink to a sink by an answer to the plan in a file, with what its places cost and forbid, if they do
pub record AnswersPlan {S : Type 0} (Holds : List ℕ → List ℕ → Type 0) (Writes : S → List ℕ → List ℕ → S → Type 0) (Prints : S → List ℕ → S → Type 0) (r : Request) (status : Status) (old new : S) : Type 0 where
  pub loaded : Loaded
  pub read : IsLoaded Holds r.file.now loaded
  pub answered : (IsPlain loaded × IsAnsweredPlan Holds Writes Prints r loaded.problem status old new) ⊎ IsAnsweredCharged Holds Writes Prints r loaded status old new

-- a search of this instance, which is alone in some bytes, has found this, from the start that is given, if there is one
pub record HasFoundIn (bytes : List ℕ) (given : Option (List ℕ)) (passes : Bool) (problem : Problem) (x : Planned) : Type 0 where
  pub start : Option (List ℕ)
  pub input : Input (Bor (List ℕ))
  pub read : HasOneInstance input passes problem
  pub of_bytes : input.before.inner.now ≡ bytes
  pub begins : IsStartOf given problem start
  pub planned : IsPlanned problem start x.permutation x.cost x.bound

-- from a sink to a sink by an answer to the instance in a file
pub record AnswersInstance {S : Type 0} (Holds : List ℕ → List ℕ → Type 0) (Writes : S → List ℕ → List ℕ → S → Type 0) (Prints : S → List ℕ → S → Type 0) (r : Request) (status : Status) (old new : S) : Type 0 where
  pub bytes : List ℕ
  pub given : Option (List ℕ)
  pub problem : Problem
  pub answer : Planned
  pub held : Holds r.file.now bytes
  pub named : IsGivenIn Holds (option_copied r.start) given
  pub found : HasFoundIn bytes given r.options.passes problem answer
  pub outputs : Answers Writes Prints r (TellsFound answer) (ShowsFor problem (Is (root_of problem.size)) answer.permutation answer.cost answer.bound) old new
  pub ends : status ≡ status_of answer.cost answer.bound
