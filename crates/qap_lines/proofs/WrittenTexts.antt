-- Texts that are written piece by piece.
use Rattle.std.proofs.Common.{◌≡◌, ℕ, ◌<◌, List, [], ◌∷◌, ◌++◌, ℤ, refl, sym, ap, subst, ◌∙◌, inl, inr, append_assoc}
use Rattle.std.specs.Fmt.{signed_decimal}
use Rattle.std.proofs.lemmas.List.{append-nil}
use Rattle.std.specs.Prelude.{Option, Result, Ok, Err, IsErrAnd}
use Rattle.std.proofs.KnownBytes.{Appends-nil, Appends-trans}
use Rattle.qap_io.specs.Counting.{CountedDevice, last_count}
use Rattle.qap_io.specs.Writing.{AppendsBeginning-longer, AppendsBeginning-after}
use Rattle.qap_lines.specs.LineText.{numbers_text, line_text}
use Rattle.qap_lines.specs.Writing.{HasWritten, HasStopped, Writes}
use Rattle.qap_lines.specs.declared.writing.WriteError.{WriteError}

-- the text of two lists, one behind the other, is their texts in that order
pub numbers_text-append : (xs ys : List ℤ) → numbers_text (xs ++ ys) ≡ numbers_text xs ++ numbers_text ys
numbers_text-append [] ys = refl
numbers_text-append (x ∷ xs) ys =
    ap (λ l. 32 ∷ signed_decimal x ++ l) (numbers_text-append xs ys) ∙ sym (append_assoc (32 ∷ signed_decimal x) (numbers_text xs) (numbers_text ys))

-- one number more at the end of a line
pub numbers_text-push : (line now new : List ℕ) (zs : List ℤ) (z : ℤ) → now ≡ line ++ numbers_text zs → new ≡ now ++ 32 ∷ signed_decimal z → new ≡ line ++ numbers_text (zs ++ z ∷ [])
numbers_text-push line now new zs z is pushed =
    pushed
    ∙ ap (λ l. l ++ 32 ∷ signed_decimal z) is
    ∙ append_assoc line (numbers_text zs) (32 ∷ signed_decimal z)
    ∙ ap (λ l. line ++ (numbers_text zs ++ l)) (sym (append-nil (32 ∷ signed_decimal z)))
    ∙ ap (λ l. line ++ l) (sym (numbers_text-append zs (z ∷ [])))

-- two lists of numbers at the end of a line
pub numbers_text-both : (line first second : List ℕ) (u v : List ℤ) → first ≡ line ++ numbers_text u → second ≡ first ++ numbers_text v → second ≡ line ++ numbers_text (u ++ v)
numbers_text-both line first second u v one two =
    two ∙ ap (λ l. l ++ numbers_text v) one ∙ append_assoc line (numbers_text u) (numbers_text v) ∙ ap (λ l. line ++ l) (sym (numbers_text-append u v))

-- where a writer is as it was, the empty text has been written
pub HasWritten-nothing : {T : Type 0} (contents : T → Option (List ℕ)) (old : CountedDevice T) → HasWritten contents old old []
HasWritten-nothing contents old = record { bytes = Appends-nil (contents old.inner); count = refl }

-- a text, and after it another
pub HasWritten-then : {T : Type 0} (contents : T → Option (List ℕ)) (old middle new : CountedDevice T) (text more : List ℕ) → HasWritten contents old middle text → HasWritten contents middle new more
    → HasWritten contents old new (text ++ more)
HasWritten-then contents old middle new text more first second = record {
  bytes = Appends-trans (contents old.inner) (contents middle.inner) (contents new.inner) text more first.bytes second.bytes;
  count = second.count ∙ first.count;
}

-- a text, and after it a beginning of another
pub HasStopped-then : {T : Type 0} (contents : T → Option (List ℕ)) (old middle new : CountedDevice T) (text more : List ℕ) (e : WriteError) → HasWritten contents old middle text → HasStopped contents middle new more e
    → HasStopped contents old new (text ++ more) e
HasStopped-then contents old middle new text more e first second = record {
  bytes = AppendsBeginning-after (contents old.inner) (contents middle.inner) (contents new.inner) text more first.bytes second.bytes;
  fault = elim second.fault [
    | inl memory ↦ inl (memory.0, memory.1 ∙ first.count)
    | inr device ↦ inr (device.0, subst (λ (k : ℕ). new.failures < last_count → k < new.failures) first.count device.1)
  ];
}

-- a beginning of a text is one of a longer text
pub HasStopped-longer : {T : Type 0} (contents : T → Option (List ℕ)) (old new : CountedDevice T) (text more : List ℕ) (e : WriteError) → HasStopped contents old new text e → HasStopped contents old new (text ++ more) e
HasStopped-longer contents old new text more e h = record {
  bytes = AppendsBeginning-longer (contents old.inner) (contents new.inner) text more h.bytes;
  fault = h.fault;
}

-- the outcome of passing on an error
pub fails_with : {T S : Type 0} (contents : T → Option (List ℕ)) (old new : CountedDevice T) (text : List ℕ) (r : Result S WriteError) (e : WriteError) → IsErrAnd r (λ f. f ≡ e) → HasStopped contents old new text e
    → Writes contents old new text r
fails_with contents old new text (Ok x) e is stopped = absurd is
fails_with contents old new text (Err f) e is stopped = subst (HasStopped contents old new text) (sym is) stopped

-- the outcome of a call that follows a text
pub Writes-then : {T S : Type 0} (contents : T → Option (List ℕ)) (old middle new : CountedDevice T) (text more : List ℕ) (r : Result S WriteError) → HasWritten contents old middle text → Writes contents middle new more r
    → Writes contents old new (text ++ more) r
Writes-then contents old middle new text more (Ok x) first second = HasWritten-then contents old middle new text more first second
Writes-then contents old middle new text more (Err e) first second = HasStopped-then contents old middle new text more e first second

-- the same of an equal text
pub Writes-same : {T S : Type 0} (contents : T → Option (List ℕ)) (old new : CountedDevice T) (text other : List ℕ) (r : Result S WriteError) → text ≡ other → Writes contents old new text r → Writes contents old new other r
Writes-same contents old new text other r same h = subst (λ (l : List ℕ). Writes contents old new l r) same h

-- the outcome of writing a number, by what the number is
pub writes_number : {T S : Type 0} (contents : T → Option (List ℕ)) (old new : CountedDevice T) (name : List ℕ) (r : Result S WriteError) (y z : ℤ) → y ≡ z → Writes contents old new (line_text name (y ∷ [])) r
    → Writes contents old new (line_text name (z ∷ [])) r
writes_number contents old new name r y z same h = subst (λ (x : ℤ). Writes contents old new (line_text name (x ∷ [])) r) same h

-- a text, then a beginning of a piece, and so a beginning of the whole
pub stops_in : {T S : Type 0} (contents : T → Option (List ℕ)) (old middle new : CountedDevice T) (front piece more : List ℕ) (r : Result S WriteError) (e : WriteError) → IsErrAnd r (λ f. f ≡ e) → HasWritten contents old middle front
    → HasStopped contents middle new piece e → Writes contents old new (front ++ piece ++ more) r
stops_in contents old middle new front piece more r e is first second =
    fails_with contents old new (front ++ piece ++ more) r e is
    (HasStopped-longer contents old new (front ++ piece) more e (HasStopped-then contents old middle new front piece e first second))
