-- An instance that is alone in an input.
use Rattle.std.specs.Prelude.{◌≡◌, ◌≢◌, ℕ, ◌-◌, ◌⊎◌, Bool, false, List, [], length}
use Rattle.qap_cost.specs.Instance.{Problem}
use Rattle.qap_text.specs.Input.{HasInstance, HasNoInstance, Input}
use Rattle.qap_text.specs.Word.{after_separators}
use Rattle.qap_text.specs.declared.error.TextError.{TextError}
use Rattle.qap_text.specs.declared.error.TextError.TheVariants.{OutOfMemory as TextMemory, Device as TextDevice}
use Rattle.plan_files.specs.declared.error.PlannerError.{PlannerError}
use Rattle.plan_files.specs.declared.error.PlannerError.TheVariants.{Text, Rest, OutOfMemory, Device}

-- the run's error for a fault of a text: out of memory and a failed device are the run's own
abbrev pub of_text : TextError → PlannerError
of_text TextMemory = OutOfMemory
of_text TextDevice = Device
of_text e = Text e

-- the input's bytes begin with the text of an instance, followed by no word unless what follows is to be ignored
pub record HasOneInstance {R : Type 0} (i : Input R) (passes : Bool) (I : Problem) : Type 0 where
  pub rest : List ℕ
  pub input : HasInstance i I rest
  pub alone : passes ≡ false → after_separators rest ≡ []

-- the input does not begin with an instance
pub record NoInstance {R : Type 0} (i : Input R) (e : PlannerError) : Type 0 where
  pub fault : TextError
  pub is : e ≡ of_text fault
  pub of_input : HasNoInstance i fault

-- an instance is followed by a word; this many bytes precede it
pub record HasRest {R : Type 0} (i : Input R) (e : PlannerError) : Type 0 where
  pub problem : Problem
  pub rest : List ℕ
  pub input : HasInstance i problem rest
  pub more : after_separators rest ≢ []
  pub is : e ≡ Rest (length input.text - length (after_separators rest))

-- memory ran out, and no call of the reader failed
pub record WantsMemory {R : Type 0} (i : Input R) (e : PlannerError) : Type 0 where
  pub is : e ≡ OutOfMemory
  pub kept : i.after.failures ≡ i.before.failures

-- why there is no instance to be searched
abbrev pub LacksInstance : {R : Type 0} → Input R → PlannerError → Type 0
LacksInstance i e = NoInstance i e ⊎ (HasRest i e ⊎ WantsMemory i e)
