-- An input that begins with an instance.
use Rattle.std.specs.Prelude.{ℕ, ◌⊎◌, List, Option}
use Rattle.qap_cost.specs.Instance.{Problem}
use Rattle.qap_io.specs.Counting.{CountedDevice}
use Rattle.qap_text.specs.InstanceText.{IsInstanceFault, IsInstanceText}
use Rattle.qap_text.specs.Whole.{IsReadFault, ReadsWhole}
use Rattle.qap_text.specs.declared.error.TextError.{TextError}

-- the most bytes that an input may have: 2^30
abbrev pub max_input : ℕ
max_input = 1_073_741_824

-- a reader, before and after a call; and what is known about the bytes left in it
pub record Input (R : Type 0) : Type 0 where
  pub bytes : R → Option (List ℕ)
  pub before : CountedDevice R
  pub after : CountedDevice R

-- the input with these parts
abbrev pub input_of : {R : Type 0} → (R → Option (List ℕ)) → CountedDevice R → CountedDevice R → Input R
input_of bytes before after = record { bytes = bytes; before = before; after = after }

-- all that the reader had left was read, within the limit
abbrev pub HasText : {R : Type 0} → Input R → List ℕ → Type 0
HasText i text = ReadsWhole i.bytes max_input i.before i.after text

-- and it begins with the text of an instance
pub record HasInstance {R : Type 0} (i : Input R) (I : Problem) (rest : List ℕ) : Type 0 where
  pub text : List ℕ
  pub read : HasText i text
  pub instance_text : IsInstanceText text I rest

-- it has this first fault as the text of an instance
pub record HasTextFault {R : Type 0} (i : Input R) (fault : TextError) : Type 0 where
  pub text : List ℕ
  pub read : HasText i text
  pub of_instance : IsInstanceFault text fault

-- the bytes cannot be read within the limit, or are not an instance's text
abbrev pub HasNoInstance : {R : Type 0} → Input R → TextError → Type 0
HasNoInstance i fault = IsReadFault i.bytes max_input i.before i.after fault ⊎ HasTextFault i fault
