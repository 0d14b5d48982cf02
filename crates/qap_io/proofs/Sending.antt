-- What a flush makes of a text that has been written.
use Rattle.std.proofs.Common.{◌≡◌, ℕ, ◌<◌, true, List, Result, Ok, Err, refl, subst, ◌∙◌, inr}
use Rattle.std.specs.Prelude.{Option, OnOk, OnErr, MatchResult, is_err}
use Rattle.std.specs.Io.KnownBytes.{Appends, Keeps}
use Rattle.std.proofs.KnownBytes.{Appends-kept}
use Rattle.qap_io.specs.Counting.{CountedDevice, CountsCall, FailedBetween, last_count}
use Rattle.qap_io.specs.Writing.{AppendsBeginning-whole, Sends, BreaksOff, StopsBy}

-- a text that was appended, and a flush behind it: the text is sent, or its sending is broken off
pub sends_or_breaks : {W S E : Type 0} (contents : W → Option (List ℕ)) (old middle new : CountedDevice W) (text : List ℕ) (r : Result S E)
    → Appends (contents old.inner) (contents middle.inner) text → middle.failures ≡ old.failures
    → Keeps (contents middle.inner) (contents new.inner) → OnOk r (new.flushed ≡ true) → CountsCall (is_err r) middle new → OnErr r (FailedBetween middle new)
    → MatchResult r (λ _. Sends contents old new text) (λ _. BreaksOff contents old new text)
sends_or_breaks contents old middle new text (Ok done) whole kept bytes flushed count failed = record {
  bytes = Appends-kept (contents old.inner) (contents middle.inner) (contents new.inner) text whole bytes;
  flushed = flushed;
  kept = count ∙ kept;
}
sends_or_breaks contents old middle new text (Err e) whole kept bytes flushed count failed = record {
  bytes = AppendsBeginning-whole (contents old.inner) (contents new.inner) text (Appends-kept (contents old.inner) (contents middle.inner) (contents new.inner) text whole bytes);
  failed = subst (λ (k : ℕ). new.failures < last_count → k < new.failures) kept failed;
}

-- a text that has gone out stops where the flush fails
pub stops_at_flush : {W E : Type 0} (memory device : E) (contents : W → Option (List ℕ)) (old middle new : CountedDevice W) (text : List ℕ)
    → Appends (contents old.inner) (contents middle.inner) text → middle.failures ≡ old.failures
    → Keeps (contents middle.inner) (contents new.inner) → FailedBetween middle new
    → StopsBy memory device contents old new text device
stops_at_flush memory device contents old middle new text whole kept bytes failed = record {
  bytes = AppendsBeginning-whole (contents old.inner) (contents new.inner) text (Appends-kept (contents old.inner) (contents middle.inner) (contents new.inner) text whole bytes);
  fault = inr (refl, subst (λ (k : ℕ). new.failures < last_count → k < new.failures) kept failed);
}
