-- The outcome of writing a text.
use Rattle.std.specs.Prelude.{◌≡◌, ℕ, List, Option, Result, MatchResult}
use Rattle.std.specs.Io.KnownBytes.{Appends}
use Rattle.qap_io.specs.Counting.{CountedDevice}
use Rattle.qap_io.specs.Writing.{StopsBy}
use Rattle.qap_lines.specs.declared.writing.WriteError.{WriteError}
use Rattle.qap_lines.specs.declared.writing.WriteError.TheVariants.{OutOfMemory, Device}

-- the text has been written, and no call has failed
pub record HasWritten {T : Type 0} (contents : T → Option (List ℕ)) (old new : CountedDevice T) (text : List ℕ) : Type 0 where
  pub bytes : Appends (contents old.inner) (contents new.inner) text
  pub count : new.failures ≡ old.failures

-- a prefix of the text has been written, and this is why no more has been
abbrev pub HasStopped : {T : Type 0} → (T → Option (List ℕ)) → CountedDevice T → CountedDevice T → List ℕ → WriteError → Type 0
HasStopped contents old new text e = StopsBy OutOfMemory Device contents old new text e

-- the outcome of a call that writes the text
abbrev pub Writes : {T S : Type 0} → (T → Option (List ℕ)) → CountedDevice T → CountedDevice T → List ℕ → Result S WriteError → Type 0
Writes contents old new text r = MatchResult r (λ _. HasWritten contents old new text) (HasStopped contents old new text)
