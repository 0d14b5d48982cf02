-- A run of the solver, from bytes to bytes.
use Rattle.std.specs.Prelude.{◌≡◌, ℕ, ◌⊎◌, Bool, List, Option, Some}
use Rattle.qap_cost.specs.Instance.{Problem}
use Rattle.qap_io.specs.Counting.{CountedDevice}
use Rattle.qap_io.specs.Writing.{Sends, StopsBy}
use Rattle.qap_search.specs.Runs.Answer.{LeavesOpen}
use Rattle.qap_search.specs.Law.Search.{whole}
use Rattle.qap_text.specs.Input.{HasInstance, HasNoInstance, Input}
use Rattle.qap_text.specs.declared.error.TextError.{TextError}
use Rattle.qap_solve.specs.Refusal.{of_text}
use Rattle.qap_solve.specs.Solution.{IsOutput, IsStoppedOutput}
use Rattle.qap_solve.specs.declared.refusal.RunError.{RunError}
use Rattle.qap_solve.specs.declared.refusal.RunError.TheVariants.{Unfinished, Stopped, OutOfMemory, Device}

-- the solution of the instance that was read, within the node limit
pub record Solves {R : Type 0} (s : Input R) (nodes : Option ℕ) (cert : Bool) (output : List ℕ) : Type 0 where
  pub instance : Problem
  pub rest : List ℕ
  pub input : HasInstance s instance rest
  pub holds : IsOutput cert instance nodes output

-- what is written for the instance that was read, if its search was stopped at this node limit
pub record SolvesPartly {R : Type 0} (s : Input R) (nodes : Option ℕ) (cert : Bool) (output : List ℕ) : Type 0 where
  pub instance : Problem
  pub rest : List ℕ
  pub input : HasInstance s instance rest
  pub limit : ℕ
  pub is : nodes ≡ Some limit
  pub holds : IsStoppedOutput cert instance limit output

-- the input does not begin with an instance
pub record NoInstance {R : Type 0} (s : Input R) (e : RunError) : Type 0 where
  pub fault : TextError
  pub is : e ≡ of_text fault
  pub of_input : HasNoInstance s fault

-- the search of an instance ended with this many open nodes, below the node limit
pub record IsUnfinished {R : Type 0} (s : Input R) (nodes : Option ℕ) (e : RunError) : Type 0 where
  pub count : ℕ
  pub is : e ≡ Unfinished count
  pub instance : Problem
  pub rest : List ℕ
  pub input : HasInstance s instance rest
  pub left : LeavesOpen (whole instance) nodes count

-- memory ran out, and no call of the reader failed
pub record WantsMemory {R : Type 0} (s : Input R) (e : RunError) : Type 0 where
  pub is : e ≡ OutOfMemory
  pub kept : s.after.failures ≡ s.before.failures

-- why no instance is read
abbrev pub IsUnread : {R : Type 0} → Input R → RunError → Type 0
IsUnread s e = NoInstance s e ⊎ WantsMemory s e

-- why no instance is solved
abbrev pub IsUnsolved : {R : Type 0} → Input R → Option ℕ → RunError → Type 0
IsUnsolved s nodes e = IsUnread s e ⊎ IsUnfinished s nodes e

-- a prefix of the text has been written, and this is why no more has been
abbrev pub Stops : {W : Type 0} → (W → Option (List ℕ)) → CountedDevice W → CountedDevice W → List ℕ → RunError → Type 0
Stops contents old new text e = StopsBy OutOfMemory Device contents old new text e

-- all of the answer has been written
abbrev pub HasSolved : {R W : Type 0} → Input R → Option ℕ → Bool → (W → Option (List ℕ)) → CountedDevice W → CountedDevice W → Type 0
HasSolved s nodes cert contents old new = (text : List ℕ) × Solves s nodes cert text × Sends contents old new text

-- the result of a search that was stopped has been written, or, for this reason, only a prefix of it
abbrev pub EndsStopped : {W : Type 0} → (W → Option (List ℕ)) → CountedDevice W → CountedDevice W → List ℕ → RunError → Type 0
EndsStopped contents old new text e = ((e ≡ Stopped) × Sends contents old new text) ⊎ Stops contents old new text e

-- nothing is solved, and nothing has been written; or a prefix of the answer has been; or the search was stopped at its node limit
abbrev pub HasNotSolved : {R W : Type 0} → Input R → Option ℕ → Bool → (W → Option (List ℕ)) → CountedDevice W → CountedDevice W → RunError → Type 0
HasNotSolved s nodes cert contents old new e =
    (IsUnsolved s nodes e × (new ≡ old))
    ⊎ (((text : List ℕ) × Solves s nodes cert text × Stops contents old new text e)
    ⊎ ((text : List ℕ) × SolvesPartly s nodes cert text × EndsStopped contents old new text e))
