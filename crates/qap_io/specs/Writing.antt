-- How a write that may stop in mid-text changes a writer and the bytes that it holds.
use Rattle.std.specs.Prelude.{ℕ, ◌+◌, ◌≡◌, ◌⊎◌, true, List, ◌++◌, length, take, drop}
use Rattle.std.specs.declared.option.Option.{Option}
use Rattle.std.specs.Io.KnownBytes.{Appends, Keeps}
use Rattle.qap_io.specs.Counting.{CountedDevice, FailedBetween}
use Rattle.std.proofs.Common.{sym, ap, subst, ◌∙◌, append_assoc, take-append-drop}
use Rattle.std.proofs.Math.Seq.{take-append_seam, take-append-add, take-length}
use Rattle.std.proofs.KnownBytes.{Appends-nil, Appends-kept, Appends-trans}

-- known bytes are extended by a prefix of the text
abbrev pub AppendsBeginning : Option (List ℕ) → Option (List ℕ) → List ℕ → Type 0
AppendsBeginning old new text = (count : ℕ) × Appends old new (take count text)

-- the text has been written and flushed, and no call has failed
pub record Sends {W : Type 0} (contents : W → Option (List ℕ)) (old new : CountedDevice W) (text : List ℕ) : Type 0 where
  pub bytes : Appends (contents old.inner) (contents new.inner) text
  pub flushed : new.flushed ≡ true
  pub kept : new.failures ≡ old.failures

-- a prefix of the text has been written, and a call has failed
pub record BreaksOff {W : Type 0} (contents : W → Option (List ℕ)) (old new : CountedDevice W) (text : List ℕ) : Type 0 where
  pub bytes : AppendsBeginning (contents old.inner) (contents new.inner) text
  pub failed : FailedBetween old new

-- a prefix of the text has been written, and this error explains why no more: if out of memory, no call has failed, and
-- a failed device has failed a call
pub record StopsBy {W E : Type 0} (memory device : E) (contents : W → Option (List ℕ)) (old new : CountedDevice W) (text : List ℕ) (e : E) : Type 0 where
  pub bytes : AppendsBeginning (contents old.inner) (contents new.inner) text
  pub fault : ((e ≡ memory) × (new.failures ≡ old.failures)) ⊎ ((e ≡ device) × FailedBetween old new)

-- the empty text is a prefix of each text
pub AppendsBeginning-kept : (old new : Option (List ℕ)) (text : List ℕ) → Keeps old new → AppendsBeginning old new text
AppendsBeginning-kept old new text kept = (0, Appends-kept old old new (take 0 text) (Appends-nil old) kept)

-- the whole text is a prefix of itself
pub AppendsBeginning-whole : (old new : Option (List ℕ)) (text : List ℕ) → Appends old new text → AppendsBeginning old new text
AppendsBeginning-whole old new text whole = (length text, subst (Appends old new) (sym (take-length text)) whole)

-- a prefix of a text is a prefix of each longer text
pub AppendsBeginning-longer : (old new : Option (List ℕ)) (text more : List ℕ) → AppendsBeginning old new text → AppendsBeginning old new (text ++ more)
AppendsBeginning-longer old new text more beginning =
    let front = take beginning.0 text in
    let rest = drop beginning.0 text ++ more in
    let split : text ++ more ≡ front ++ rest = sym (ap (λ l. l ++ more) (take-append-drop beginning.0 text)) ∙ append_assoc front (drop beginning.0 text) more in
    (length front, subst (Appends old new) (sym (ap (take (length front)) split ∙ take-append_seam front rest)) beginning.1)

-- a text, followed by a prefix of the next one
pub AppendsBeginning-after : (old middle new : Option (List ℕ)) (text next : List ℕ) → Appends old middle text → AppendsBeginning middle new next
    → AppendsBeginning old new (text ++ next)
AppendsBeginning-after old middle new text next whole beginning =
    (length text + beginning.0, subst (Appends old new) (sym (take-append-add text next beginning.0)) (Appends-trans old middle new text (take beginning.0 next) whole beginning.1))
