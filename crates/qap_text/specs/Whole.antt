-- Reading a reader's bytes to their end, within a limit, and what prevents that.
use Rattle.std.specs.Prelude.{◌≡◌, ℕ, ◌-◌, ◌<◌, ◌≤◌, List, ◌++◌, length, Option}
use Rattle.std.specs.Io.KnownBytes.{Consumes, IsAtEnd}
use Rattle.qap_io.specs.Counting.{CountedDevice, FailedBetween}
use Rattle.qap_text.specs.declared.error.TextError.{TextError}
use Rattle.qap_text.specs.declared.error.TextError.TheVariants.{InputTooLong, OutOfMemory, Device}

-- the text is all that the reader had left, at most as long as the limit, and no call failed
pub record ReadsWhole {R : Type 0} (remaining : R → Option (List ℕ)) (limit : ℕ) (old new : CountedDevice R) (text : List ℕ) : Type 0 where
  pub bytes : Consumes (remaining old.inner) (remaining new.inner) text
  pub at_end : IsAtEnd (remaining new.inner)
  pub within : length text ≤ limit
  pub kept : new.failures ≡ old.failures

-- likewise behind bytes that were read before, and count towards the limit
pub record ReadsBehind {R : Type 0} (remaining : R → Option (List ℕ)) (limit : ℕ) (old new : CountedDevice R) (front text : List ℕ) : Type 0 where
  pub rest : List ℕ
  pub is : text ≡ front ++ rest
  pub read : ReadsWhole remaining (limit - length front) old new rest

-- the text is what the reader had left, or that many of its first bytes, and no call failed
pub record ReadsFront {R : Type 0} (remaining : R → Option (List ℕ)) (count : ℕ) (old new : CountedDevice R) (text : List ℕ) : Type 0 where
  pub bytes : Consumes (remaining old.inner) (remaining new.inner) text
  pub within : length text ≤ count
  pub at_end : length text < count → IsAtEnd (remaining new.inner)
  pub kept : new.failures ≡ old.failures

-- a text that is longer than the limit came from the reader
pub record ReadsTooMuch {R : Type 0} (remaining : R → Option (List ℕ)) (limit : ℕ) (old new : CountedDevice R) : Type 0 where
  pub text : List ℕ
  pub bytes : Consumes (remaining old.inner) (remaining new.inner) text
  pub too_long : limit < length text
  pub kept : new.failures ≡ old.failures

-- the text is longer than the limit, or memory ran out, while no call failed; or a call failed
abbrev pub IsReadFault : {R : Type 0} → (R → Option (List ℕ)) → ℕ → CountedDevice R → CountedDevice R → TextError → Type 0
IsReadFault remaining limit old new InputTooLong = ReadsTooMuch remaining limit old new
IsReadFault remaining limit old new OutOfMemory = new.failures ≡ old.failures
IsReadFault remaining limit old new Device = FailedBetween old new
IsReadFault remaining limit old new _ = ⊥
