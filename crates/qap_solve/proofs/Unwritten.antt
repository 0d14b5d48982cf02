-- Texts of which nothing has gone out yet, and texts behind others that have.
use Rattle.std.proofs.Common.{◌≡◌, ℕ, ◌<◌, ◌++◌, List, Result, Ok, Err, refl, sym, ◌∙◌, subst, inl, inr}
use Rattle.std.specs.Prelude.{MatchResult, Option}
use Rattle.std.specs.Io.KnownBytes.{Appends}
use Rattle.std.proofs.KnownBytes.{Appends-nil, Appends-trans}
use Rattle.qap_io.specs.Counting.{CountedDevice, FailedBetween, last_count}
use Rattle.qap_io.specs.Writing.{AppendsBeginning, AppendsBeginning-after, AppendsBeginning-longer, Sends}
use Rattle.qap_solve.specs.Solving.{Stops}
use Rattle.qap_solve.specs.declared.refusal.RunError.{RunError}
use Rattle.qap_solve.specs.declared.refusal.RunError.TheVariants.{Device, OutOfMemory}

-- nothing is a beginning of a text
pub unwritten : {W : Type 0} (contents : W → Option (List ℕ)) (old new : CountedDevice W) (text : List ℕ) → new ≡ old → Stops contents old new text OutOfMemory
unwritten contents old new text same =
    subst (λ w. Stops contents old w text OutOfMemory) (sym same)
    (record { bytes = (0, Appends-nil (contents old.inner)); fault = inl (refl, refl) })

-- where a writer fails in the first text, a beginning of both has gone out
pub stops_before : {W : Type 0} (contents : W → Option (List ℕ)) (old new : CountedDevice W) (first rest : List ℕ) → AppendsBeginning (contents old.inner) (contents new.inner) first → FailedBetween old new → Stops contents old new (first ++ rest) Device
stops_before contents old new first rest beginning failed = record {
  bytes = AppendsBeginning-longer (contents old.inner) (contents new.inner) first rest beginning;
  fault = inr (refl, failed);
}

failed_since : {W : Type 0} (old middle new : CountedDevice W) → middle.failures ≡ old.failures → FailedBetween middle new → FailedBetween old new
failed_since old middle new kept failed = λ few. subst (λ (n : ℕ). n < new.failures) kept (failed (subst (λ (n : ℕ). n < last_count) refl few))

-- what comes of a text behind one that has gone out
pub sends_behind : {W : Type 0} {T : Type 0} (contents : W → Option (List ℕ)) (old middle new : CountedDevice W) (first rest : List ℕ) (result : Result T RunError) → Appends (contents old.inner) (contents middle.inner) first → middle.failures ≡ old.failures
    → MatchResult result (λ _. Sends contents middle new rest) (Stops contents middle new rest) → MatchResult result (λ _. Sends contents old new (first ++ rest)) (Stops contents old new (first ++ rest))
sends_behind contents old middle new first rest (Ok x) whole kept h = record {
  bytes = Appends-trans (contents old.inner) (contents middle.inner) (contents new.inner) first rest whole h.bytes;
  flushed = h.flushed;
  kept = h.kept ∙ kept;
}
sends_behind contents old middle new first rest (Err e) whole kept h = record {
  bytes = AppendsBeginning-after (contents old.inner) (contents middle.inner) (contents new.inner) first rest whole h.bytes;
  fault =
      elim h.fault [
        | inl memory ↦ inl (memory.0, memory.1 ∙ kept)
        | inr device ↦ inr (device.0, failed_since old middle new kept device.1)
      ];
}
