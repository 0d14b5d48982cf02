-- The result of a run.
use Rattle.std.specs.Prelude.{◌≡◌, ℕ, ◌⊎◌, Bool, List, Option}
use Rattle.qap_cost.specs.Instance.{Problem}
use Rattle.qap_io.specs.Counting.{CountedDevice}
use Rattle.qap_io.specs.Writing.{BreaksOff, Sends}
use Rattle.qap_text.specs.Input.{Input}
use Rattle.qap_plan.specs.Answer.{answer_text}
use Rattle.plan_search.specs.Planning.{IsPlanned}
use Rattle.plan_files.specs.Reading.{LacksInstance, HasOneInstance, WantsMemory}
use Rattle.plan_files.specs.Starting.{HasNoStart, HasStart, Starting}
use Rattle.plan_files.specs.declared.error.PlannerError.{PlannerError}
use Rattle.plan_files.specs.declared.error.PlannerError.TheVariants.{Device}
use Rattle.plan_search.specs.declared.planning.Planned.{Planned}

-- the input has this instance to be searched, and a start if one is requested, and this is what the search has found
pub record ComesTo {R Q : Type 0} (i : Input R) (s : Starting Q) (passes : Bool) (problem : Problem) (x : Planned) : Type 0 where
  pub input : HasOneInstance i passes problem
  pub start : Option (List ℕ)
  pub begins : HasStart s problem start
  pub planned : IsPlanned problem start x.permutation x.cost x.bound

-- the text of the answer has been written
pub record HasAnswered {R Q W : Type 0} (i : Input R) (s : Starting Q) (passes : Bool) (contents : W → Option (List ℕ)) (old new : CountedDevice W) (problem : Problem) (x : Planned) : Type 0 where
  pub comes : ComesTo i s passes problem x
  pub sent : Sends contents old new (answer_text x.permutation x.cost x.bound)

-- the writer failed after a prefix of it
pub record HasBrokenOff {R Q W : Type 0} (i : Input R) (s : Starting Q) (passes : Bool) (contents : W → Option (List ℕ)) (old new : CountedDevice W) : Type 0 where
  pub problem : Problem
  pub answer : Planned
  pub comes : ComesTo i s passes problem answer
  pub broken : BreaksOff contents old new (answer_text answer.permutation answer.cost answer.bound)

-- there is an instance, but not the requested start
pub record StopsAtStart {R Q : Type 0} (i : Input R) (s : Starting Q) (passes : Bool) (e : PlannerError) : Type 0 where
  pub problem : Problem
  pub input : HasOneInstance i passes problem
  pub fault : HasNoStart s problem e

-- why nothing is searched: there is no instance, and the start was not read; or there is no start; or memory ran out
abbrev pub IsNotSearched : {R Q : Type 0} → Input R → Starting Q → Bool → PlannerError → Type 0
IsNotSearched i s passes e = (LacksInstance i e × (s.after ≡ s.before)) ⊎ (StopsAtStart i s passes e ⊎ WantsMemory i e)

-- there is no answer, and nothing has been written; or the writer failed
abbrev pub HasNotAnswered : {R Q W : Type 0} → Input R → Starting Q → Bool → (W → Option (List ℕ)) → CountedDevice W → CountedDevice W → PlannerError → Type 0
HasNotAnswered i s passes contents old new e = (IsNotSearched i s passes e × (new ≡ old)) ⊎ ((e ≡ Device) × HasBrokenOff i s passes contents old new)
