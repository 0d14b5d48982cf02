-- The two texts of a run: an instance's and a proof's, each from its own reader.
use Rattle.std.specs.Prelude.{◌≡◌, ℕ, ◌⊎◌, List, Option, Some, IfSome}
use Rattle.qap_cost.specs.Instance.{Problem}
use Rattle.qap_io.specs.Counting.{CountedDevice}
use Rattle.qap_text.specs.Input.{HasInstance, HasText, Input, input_of}
use Rattle.qap_text.specs.Whole.{ReadsFront}
use Rattle.qap_text.specs.declared.error.TextError.{TextError}
use Rattle.qap_text.specs.declared.error.TextError.TheVariants.{InputTooLong}
use Rattle.proof_versions.specs.Versions.{StatesVersionTwo}

-- the input that begins with the instance, and that of the proof
pub record Inputs (R S : Type 0) : Type 0 where
  pub first : Input R
  pub second : Input S

-- the two inputs with these readers, before and after
abbrev pub inputs_of : {R S : Type 0} → (R → Option (List ℕ)) → CountedDevice R → CountedDevice R
    → (S → Option (List ℕ)) → CountedDevice S → CountedDevice S → Inputs R S
inputs_of bytes before after second_bytes second second_after =
    record { first = input_of bytes before after; second = input_of second_bytes second second_after }

-- the instance with which the one begins, and all of the other
pub record HasTexts {R S : Type 0} (i : Inputs R S) (I : Problem) (proof : List ℕ) : Type 0 where
  pub rest : List ℕ
  pub instance_read : HasInstance i.first I rest
  pub proof_read : HasText i.second proof

-- what the instance and the text of the proof yield
pub record ComeTo {R S A : Type 0} (i : Inputs R S) (P : Problem → List ℕ → A → Type 0) (answer : A) : Type 0 where
  pub problem : Problem
  pub text : List ℕ
  pub texts : HasTexts i problem text
  pub holds : P problem text answer

-- the text of a proof of version 2, checked as it was read: all that the reader had left, if that is known
pub record StreamsText {S : Type 0} (i : Input S) (proof : List ℕ) : Type 0 where
  pub version : StatesVersionTwo proof
  pub whole : IfSome (i.bytes i.before.inner) (λ xs. xs ≡ proof)

-- the instance with which the one begins, and such a text, which the other had
pub record HasStream {R S : Type 0} (i : Inputs R S) (I : Problem) (proof : List ℕ) : Type 0 where
  pub rest : List ℕ
  pub instance_read : HasInstance i.first I rest
  pub streamed : StreamsText i.second proof

-- the instance with which the one begins, and as many of the other's first bytes as state a version, or all if there are fewer
pub record HasFront {R S : Type 0} (i : Inputs R S) (I : Problem) (front : List ℕ) : Type 0 where
  pub rest : List ℕ
  pub instance_read : HasInstance i.first I rest
  pub front_read : ReadsFront i.second.bytes 11 i.second.before i.second.after front

-- a text that was refused as too long does not state version 2, if it is known
abbrev pub IsTooLongUnstreamed : {S : Type 0} → Input S → TextError → Type 0
IsTooLongUnstreamed i fault = fault ≡ InputTooLong → (text : List ℕ) → i.bytes i.before.inner ≡ Some text → StatesVersionTwo text → ⊥

-- what they yield
pub record Streams {R S A : Type 0} (i : Inputs R S) (P : Problem → List ℕ → A → Type 0) (answer : A) : Type 0 where
  pub problem : Problem
  pub text : List ℕ
  pub texts : HasStream i problem text
  pub holds : P problem text answer

-- what an instance and the text of a proof yield, whether or not the text was read as a whole before it was checked
abbrev pub Yields : {R S A : Type 0} → Inputs R S → (Problem → List ℕ → A → Type 0) → A → Type 0
Yields i P answer = ComeTo i P answer ⊎ Streams i P answer

-- the reader of the proof is unchanged
abbrev pub IsUnread : {R S : Type 0} → Inputs R S → Type 0
IsUnread i = i.second.after ≡ i.second.before

-- it is, unless an instance had been read before
abbrev pub ProofWaits : {R S : Type 0} → Inputs R S → Type 0
ProofWaits i = IsUnread i ⊎ ((I : Problem) × (rest : List ℕ) × HasInstance i.first I rest)

-- no call of a reader failed
pub record KeepsCounts {R S : Type 0} (i : Inputs R S) : Type 0 where
  pub first_kept : i.first.after.failures ≡ i.first.before.failures
  pub second_kept : i.second.after.failures ≡ i.second.before.failures
