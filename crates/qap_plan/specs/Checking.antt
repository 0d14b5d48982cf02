-- The reports on checked answers.
use Rattle.std.specs.Prelude.{◌≡◌, ℕ, ℤ, List, MatchOption, Option, option_copied}
use Rattle.qap_cost.specs.Instance.{Problem}
use Rattle.qap_cost.specs.Objective.{cost_of}
use Rattle.qap_cost.specs.Placement.{root_of}
use Rattle.plan_check.specs.Answer.{IsAnswerToInstance, IsAnswerToPlan}
use Rattle.plan_answer.specs.Stated.{IsCostLine}
use Rattle.plan_check.specs.Proved.{IsProvedBound}
use Rattle.plan_check.specs.Telling.{TellsProved}
use Rattle.plan_file.specs.declared.tables.NamedProblem.{NamedProblem}
use Rattle.plan_input.specs.Loaded.{IsLoaded}
use Rattle.plan_input.specs.declared.loading.Loaded.{Loaded}
use Rattle.qap_plan.specs.Answer.{cost_line, verdict_line}
use Rattle.plan_files.specs.Sources.{IsGivenIn, IsInstanceIn, IsPlain}
use Rattle.qap_plan.specs.declared.commands.check.CheckRequest.{CheckRequest}

-- the line reports what the proof establishes about the permutation's cost
pub record TellsProvedCost (I : Problem) (p : List ℕ) (proof line : List ℕ) : Type 0 where
  pub bound : ℤ
  pub proved : IsProvedBound I (root_of I.size) (cost_of I p) proof bound
  pub told : line ≡ verdict_line (cost_of I p) bound

-- the text is an answer to a plan, and this is reported of its permutation
pub record ConfirmsPlan (P : NamedProblem) (text : List ℕ) (Told : List ℕ → Type 0) : Type 0 where
  pub permutation : List ℕ
  pub cost : ℤ
  pub bound : ℤ
  pub answer : IsAnswerToPlan P text permutation cost bound
  pub told : Told permutation

-- likewise for an instance
pub record ConfirmsFound (I : Problem) (text : List ℕ) (Told : List ℕ → Type 0) : Type 0 where
  pub permutation : List ℕ
  pub cost : ℤ
  pub bound : ℤ
  pub answer : IsAnswerToInstance I text permutation cost bound
  pub told : Told permutation

-- the line reports a permutation's cost in a plan's units, and what the proof establishes about it, if one is given
abbrev pub TellsOfPlan : NamedProblem → Option (List ℕ) → List ℕ → List ℕ → Type 0
TellsOfPlan P proof p line = MatchOption proof (IsCostLine P (cost_of P.instance p) line) (λ t. TellsProved P p t line)

-- likewise for an instance
abbrev pub TellsOfNumbers : Problem → Option (List ℕ) → List ℕ → List ℕ → Type 0
TellsOfNumbers I proof p line = MatchOption proof (line ≡ cost_line (cost_of I p)) (λ t. TellsProvedCost I p t line)

-- from a sink to a sink by a line on the answer in one file to the plan in another, and on the proof that is named
pub record ConfirmsPlanIn {S : Type 0} (Holds : List ℕ → List ℕ → Type 0) (Prints : S → List ℕ → S → Type 0) (r : CheckRequest) (old new : S) : Type 0 where
  pub loaded : Loaded
  pub text : List ℕ
  pub proof : Option (List ℕ)
  pub line : List ℕ
  pub read : IsLoaded Holds r.file.now loaded
  pub plain : IsPlain loaded
  pub held : Holds r.answer.now text
  pub named : IsGivenIn Holds (option_copied r.proof) proof
  pub confirms : ConfirmsPlan loaded.problem text (λ p. TellsOfPlan loaded.problem proof p line)
  pub prints : Prints old line new

-- likewise to the instance in a file
pub record ConfirmsNumbersIn {S : Type 0} (Holds : List ℕ → List ℕ → Type 0) (Prints : S → List ℕ → S → Type 0) (r : CheckRequest) (old new : S) : Type 0 where
  pub problem : Problem
  pub text : List ℕ
  pub proof : Option (List ℕ)
  pub line : List ℕ
  pub read : IsInstanceIn Holds r.file.now r.passes problem
  pub held : Holds r.answer.now text
  pub named : IsGivenIn Holds (option_copied r.proof) proof
  pub confirms : ConfirmsFound problem text (λ p. TellsOfNumbers problem proof p line)
  pub prints : Prints old line new
