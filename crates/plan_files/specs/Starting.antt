-- A start at the beginning of its own input.
use Rattle.std.specs.Borrow.{Bor}
use Rattle.std.specs.Prelude.{◌≡◌, ◌≢◌, ⊤, ℕ, ◌⊎◌, List, ℤ, Option, Some, None}
use Rattle.qap_cost.specs.Instance.{Problem}
use Rattle.qap_cost.specs.Objective.{cost_of}
use Rattle.qap_io.specs.Counting.{CountedDevice}
use Rattle.qap_text.specs.Input.{HasText, Input, input_of, max_input}
use Rattle.qap_text.specs.SolutionText.{IsSolutionFault, IsSolutionText}
use Rattle.qap_text.specs.Whole.{IsReadFault}
use Rattle.qap_text.specs.declared.error.TextError.{TextError}
use Rattle.qap_text.specs.declared.error.TextError.TheVariants.{OutOfMemory as TextMemory}
use Rattle.plan_files.specs.declared.error.PlannerError.{PlannerError}
use Rattle.plan_files.specs.declared.error.PlannerError.TheVariants.{Start, StartCost, OutOfMemory}

-- the run's error for a fault of the start's text: out of memory is the run's own
abbrev pub of_start : TextError → PlannerError
of_start TextMemory = OutOfMemory
of_start e = Start e

-- the input begins with the text of a solution of n facilities
pub record HasSolution {Q : Type 0} (i : Input Q) (n : ℕ) (value : ℤ) (p : List ℕ) : Type 0 where
  pub text : List ℕ
  pub read : HasText i text
  pub solution : IsSolutionText text n value p

-- it has this first fault as one
pub record HasSolutionFault {Q : Type 0} (i : Input Q) (n : ℕ) (fault : TextError) : Type 0 where
  pub text : List ℕ
  pub read : HasText i text
  pub of_solution : IsSolutionFault text n fault

-- the bytes cannot be read within the limit, or are not a solution's text
abbrev pub HasNoSolution : {Q : Type 0} → Input Q → ℕ → TextError → Type 0
HasNoSolution i n fault = IsReadFault i.bytes max_input i.before i.after fault ⊎ HasSolutionFault i n fault

-- the input does not begin with a solution of the instance's size
pub record NoStart {Q : Type 0} (i : Input Q) (I : Problem) (e : PlannerError) : Type 0 where
  pub fault : TextError
  pub is : e ≡ of_start fault
  pub of_input : HasNoSolution i I.size fault

-- a solution misstates its cost
pub record HasOtherCost {Q : Type 0} (i : Input Q) (I : Problem) (e : PlannerError) : Type 0 where
  pub value : ℤ
  pub permutation : List ℕ
  pub input : HasSolution i I.size value permutation
  pub differs : value ≢ cost_of I permutation
  pub is : e ≡ StartCost (cost_of I permutation)

-- the reader of a start, if one is requested, before and after the call; and what is known about the bytes left in it
pub record Starting (Q : Type 0) : Type 0 where
  pub bytes : Q → Option (List ℕ)
  pub before : Option (CountedDevice Q)
  pub after : Option (CountedDevice Q)

-- the start with this reader, before and after
abbrev pub starting_of : {Q : Type 0} → (Q → Option (List ℕ)) → Option (CountedDevice Q) → Option (CountedDevice Q) → Starting Q
starting_of bytes before after = record { bytes = bytes; before = before; after = after }

-- given the reader before and after: none is requested, or it begins with a solution that states its own cost
abbrev pub Begins : {Q : Type 0} → (Q → Option (List ℕ)) → Problem → Option (CountedDevice Q) → Option (CountedDevice Q) → Option (List ℕ) → Type 0
Begins bytes I None None None = Unit {0}
Begins bytes I (Some old) (Some new) (Some p) = HasSolution (input_of bytes old new) I.size (cost_of I p) p
Begins bytes I _ _ _ = ⊥

-- the initial permutation of the search
abbrev pub HasStart : {Q : Type 0} → Starting Q → Problem → Option (List ℕ) → Type 0
HasStart s I start = Begins s.bytes I s.before s.after start

-- given the reader before and after: one is requested, and the input does not begin with one
abbrev pub BeginsNot : {Q : Type 0} → (Q → Option (List ℕ)) → Problem → Option (CountedDevice Q) → Option (CountedDevice Q) → PlannerError → Type 0
BeginsNot bytes I (Some old) (Some new) e = NoStart (input_of bytes old new) I e ⊎ HasOtherCost (input_of bytes old new) I e
BeginsNot bytes I _ _ e = ⊥

-- why there is no start although one is requested
abbrev pub HasNoStart : {Q : Type 0} → Starting Q → Problem → PlannerError → Type 0
HasNoStart s I e = BeginsNot s.bytes I s.before s.after e

-- a reader of some bytes, if they are given
abbrev pub IsReaderOf : Option (List ℕ) → Option (CountedDevice (Bor (List ℕ))) → Type 0
IsReaderOf None None = ⊤
IsReaderOf (Some bytes) (Some reader) = reader.inner.now ≡ bytes
IsReaderOf _ _ = ⊥

-- some bytes begin with a solution that states its own cost
pub record AreSolution (bytes : List ℕ) (I : Problem) (p : List ℕ) : Type 0 where
  pub input : Input (Bor (List ℕ))
  pub read : HasSolution input I.size (cost_of I p) p
  pub of_bytes : input.before.inner.now ≡ bytes

-- a file begins with such a solution
pub record IsSolutionIn (Holds : List ℕ → List ℕ → Type 0) (file : List ℕ) (I : Problem) (p : List ℕ) : Type 0 where
  pub bytes : List ℕ
  pub held : Holds file bytes
  pub solution : AreSolution bytes I p

-- the start is the solution in the bytes that are given, if they are
abbrev pub IsStartOf : Option (List ℕ) → Problem → Option (List ℕ) → Type 0
IsStartOf None I start = start ≡ None
IsStartOf (Some bytes) I (Some p) = AreSolution bytes I p
IsStartOf (Some bytes) I None = ⊥
