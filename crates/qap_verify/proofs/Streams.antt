-- The front of a reader's bytes, and what is behind it.
use Rattle.std.proofs.Common.{◌≡◌, ◌∙◌, ℕ, ◌-◌, ◌<◌, ◌≤◌, List, ◌++◌, length, Err, Ok, Result, ap, arith, inl, inr, refl, sym, subst, length-append}
use Rattle.std.specs.Prelude.{◌⊎◌, IfSome, MatchResult, None, Option, Some}
use Rattle.std.specs.Io.KnownBytes.{Consumes, prepend_known}
use Rattle.std.proofs.KnownBytes.{Consumes-trans}
use Rattle.qap_cost.specs.Instance.{Problem}
use Rattle.qap_io.specs.Counting.{CountedDevice}
use Rattle.qap_proof.specs.declared.acceptance.Verdict.{Verdict}
use Rattle.qap_proof.specs.declared.error.ProofError.TheVariants.{OutOfMemory as ProofMemory}
use Rattle.qap_proof.specs.Cover.{CoverValue}
use Rattle.qap_text.specs.Input.{HasText, Input, input_of, max_input}
use Rattle.qap_text.specs.Whole.{IsReadFault, ReadsBehind, ReadsFront, ReadsTooMuch, ReadsWhole}
use Rattle.qap_text.specs.declared.error.TextError.{TextError}
use Rattle.qap_text.specs.declared.error.TextError.TheVariants.{Empty, NotANumber, SizeZero, SizeTooLarge, EntryRange, CountDiffers, SizeDiffers, NotPermutation, ValueRange, InputTooLong, OutOfMemory as TextMemory, Device}
use Rattle.proof_versions.specs.Versions.{StatesVersionTwo}
use Rattle.proof_versions.specs.Opening.{EitherOpens}
use Rattle.proof_versions.specs.Streams.{StreamAdds, StreamOpens, StreamShows}
use Rattle.proof_versions.proofs.Streams.{begun as known_of, states_in_front}
use Rattle.qap_verify.specs.Answering.{Proves}
use Rattle.qap_verify.specs.Parts.{HasAdded, HasNotAdded, PartUnread}
use Rattle.qap_verify.specs.Refusal.{HasNoTexts, IsNoProof, RefusesStream, of_text}
use Rattle.qap_verify.specs.Texts.{HasFront, HasTexts, Inputs, IsTooLongUnstreamed, Yields}
use Rattle.qap_verify.specs.declared.refusal.VerifyError.{VerifyError}
use Rattle.qap_verify.specs.declared.refusal.VerifyError.TheVariants.{OutOfMemory}
use Rattle.qap_verify.proofs.Comes.{wants_memory}

-- both together are the whole
pub whole_of : {R : Type 0} (remaining : R → Option (List ℕ)) (count limit : ℕ) (old mid new : CountedDevice R) (front text : List ℕ)
    → length front ≤ limit → ReadsFront remaining count old mid front → ReadsBehind remaining limit mid new front text → ReadsWhole remaining limit old new text
whole_of remaining count limit old mid new front text room first behind = record {
  bytes = subst (Consumes (remaining old.inner) (remaining new.inner)) (sym behind.is) (Consumes-trans _ _ _ _ _ first.bytes behind.read.bytes);
  at_end = behind.read.at_end;
  within = omega (arith, ap length behind.is, length-append front behind.rest, behind.read.within, room);
  kept = behind.read.kept ∙ first.kept;
}

-- what keeps the rest from being read keeps the whole from it
pub fault_of : {R : Type 0} (remaining : R → Option (List ℕ)) (count limit : ℕ) (old mid new : CountedDevice R) (front : List ℕ) (e : TextError)
    → length front ≤ limit → ReadsFront remaining count old mid front → IsReadFault remaining (limit - length front) mid new e → IsReadFault remaining limit old new e
fault_of remaining count limit old mid new front InputTooLong room first long = record {
  text = front ++ long.text;
  bytes = Consumes-trans _ _ _ _ _ first.bytes long.bytes;
  too_long = omega (arith, length-append front long.text, long.too_long, room);
  kept = long.kept ∙ first.kept;
}
fault_of remaining count limit old mid new front TextMemory room first kept = kept ∙ first.kept
fault_of remaining count limit old mid new front Device room first failed =
    λ below. subst (λ (n : ℕ). n < new.failures) first.kept (failed below)
fault_of remaining count limit old mid new front Empty room first h = h
fault_of remaining count limit old mid new front (NotANumber k) room first h = h
fault_of remaining count limit old mid new front (SizeZero k) room first h = h
fault_of remaining count limit old mid new front (SizeTooLarge k) room first h = h
fault_of remaining count limit old mid new front (EntryRange k) room first h = h
fault_of remaining count limit old mid new front CountDiffers room first h = h
fault_of remaining count limit old mid new front (SizeDiffers k) room first h = h
fault_of remaining count limit old mid new front (NotPermutation k) room first h = h
fault_of remaining count limit old mid new front (ValueRange k) room first h = h

-- the front and all that was behind it are all that the reader had
pub all_of : (known rest : Option (List ℕ)) (front text : List ℕ) → Consumes known rest front
    → IfSome (prepend_known front rest) (λ xs. xs ≡ text) → IfSome known (λ xs. xs ≡ text)
all_of None rest front text consumed whole = tt
all_of (Some xs) None front text consumed whole = absurd consumed
all_of (Some xs) (Some ys) front text consumed whole = consumed ∙ whole

-- what is established of a text, which is all that a reader had, if that is known
pub record StreamHolds {A : Type 0} (P : List ℕ → A → Type 0) (known : Option (List ℕ)) (answer : A) : Type 0 where
  pub text : List ℕ
  pub whole : IfSome known (λ xs. xs ≡ text)
  pub version : StatesVersionTwo text
  pub holds : P text answer

-- a verdict
pub shown_holds : (I : Problem) (known : Option (List ℕ)) (r : Result Verdict VerifyError) → MatchResult r (StreamShows I known) (RefusesStream I known) → MatchResult r (StreamHolds (Proves I) known) (RefusesStream I known)
shown_holds I known (Ok v) h = record { text = h.text; whole = h.whole; version = h.version; holds = (inr h.shows, h.so) }
shown_holds I known (Err e) h = h

-- the proof of a whole
pub opened_holds : (I : Problem) (known : Option (List ℕ)) (r : Result CoverValue VerifyError) → MatchResult r (StreamOpens I known) (RefusesStream I known) → MatchResult r (StreamHolds (EitherOpens I) known) (RefusesStream I known)
opened_holds I known (Ok v) h = record { text = h.text; whole = h.whole; version = h.version; holds = inr h.opened }
opened_holds I known (Err e) h = h

-- what a text shows of which the front had been read when the rest was checked as it was read
pub yields_of : {R S A : Type 0} (P : Problem → List ℕ → A → Type 0) (first : Input R) (bytes : S → Option (List ℕ)) (old mid new : CountedDevice S) (I : Problem) (front : List ℕ) (r : Result A VerifyError)
    → HasFront (record { first = first; second = input_of bytes old mid }) I front → StatesVersionTwo front
    → MatchResult r (StreamHolds (P I) (prepend_known front (bytes mid.inner))) (RefusesStream I (prepend_known front (bytes mid.inner)))
    → MatchResult r (Yields (record { first = first; second = input_of bytes old new }) P)
    (λ e. HasNoTexts (record { first = first; second = input_of bytes old new }) e ⊎ Yields (record { first = first; second = input_of bytes old new }) IsNoProof e)
yields_of P first bytes old mid new I front (Ok v) begun two h = inr (record {
  problem = I;
  text = h.text;
  texts = record {
    rest = begun.rest;
    instance_read = begun.instance_read;
    streamed = record { version = h.version; whole = all_of (bytes old.inner) (bytes mid.inner) front h.text begun.front_read.bytes h.whole };
  };
  holds = h.holds;
})
yields_of P first bytes old mid new I front (Err e) begun two h =
    let b = known_of I (bytes old.inner) (bytes mid.inner) front h.0 begun.front_read.bytes two h.2 in
    inr (inr (record {
      problem = I;
      text = b.text;
      texts = record { rest = begun.rest; instance_read = begun.instance_read; streamed = record { version = b.version; whole = b.whole } };
      holds = (h.0, h.1, (b.refuses, inl b.version));
    }))

-- the whole of a text of which the front had been read
pub texts_of : {R S : Type 0} (first : Input R) (bytes : S → Option (List ℕ)) (old mid new : CountedDevice S) (I : Problem) (front text : List ℕ) → HasFront (record { first = first; second = input_of bytes old mid }) I front
    → ReadsBehind bytes max_input mid new front text → HasTexts (record { first = first; second = input_of bytes old new }) I text
texts_of first bytes old mid new I front text begun behind = record {
  rest = begun.rest;
  instance_read = begun.instance_read;
  proof_read = whole_of bytes 11 max_input old mid new front text (omega (arith, begun.front_read.within)) begun.front_read behind;
}

-- the fault that keeps the bytes behind a front from being read
pub too_long_unstreamed : {S : Type 0} (bytes : S → Option (List ℕ)) (old mid new : CountedDevice S) (front : List ℕ) (fault : TextError) → ReadsFront bytes 11 old mid front → (StatesVersionTwo front → ⊥) → IsTooLongUnstreamed (input_of bytes old new) fault
too_long_unstreamed bytes old mid new front fault first other is text known two =
    other (states_in_front (bytes mid.inner) front text (subst (λ (k : Option (List ℕ)). Consumes k (bytes mid.inner) front) known first.bytes) first.within first.at_end two)

-- what keeps the front itself from being read is not that it is too long
pub front_unstreamed : {S : Type 0} (bytes : S → Option (List ℕ)) (old new : CountedDevice S) (fault : TextError) → ((limit : ℕ) → IsReadFault bytes limit old new fault) → IsTooLongUnstreamed (input_of bytes old new) fault
front_unstreamed bytes old new fault h is text known two =
    let far : ReadsTooMuch bytes (length text) old new = subst (IsReadFault bytes (length text) old new) is (h (length text)) in
    too_far (bytes new.inner) far.text text (subst (λ (k : Option (List ℕ)). Consumes k (bytes new.inner) far.text) known far.bytes) far.too_long
  where
    too_far : (rest : Option (List ℕ)) (taken text : List ℕ) → Consumes (Some text) rest taken → length text < length taken → ⊥
    too_far None taken text consumed long = consumed
    too_far (Some ys) taken text consumed long = absurd (omega (arith, ap length consumed, length-append taken ys, long))

-- what keeps the bytes behind a front from being read keeps the text from it
pub unread_of : {R S : Type 0} (first : Input R) (bytes : S → Option (List ℕ)) (old mid new : CountedDevice S) (I : Problem) (front : List ℕ) (fault : TextError) (e : VerifyError) → HasFront (record { first = first; second = input_of bytes old mid }) I front
    → (StatesVersionTwo front → ⊥) → IsReadFault bytes (max_input - length front) mid new fault → e ≡ of_text fault → HasNoTexts (record { first = first; second = input_of bytes old new }) e
unread_of first bytes old mid new I front fault e begun other h is =
    inr (inl (record {
      fault = fault;
      is = is;
      problem = I;
      rest = begun.rest;
      instance_read = begun.instance_read;
      read = fault_of bytes 11 max_input old mid new front fault (omega (arith, begun.front_read.within)) begun.front_read h;
      unstreamed = too_long_unstreamed bytes old mid new front fault begun.front_read other;
    }))

-- memory that runs out when the verdict is known
pub without_memory : {R S : Type 0} (i : Inputs R S) (v : Verdict) (e : VerifyError) → Yields i Proves v → e ≡ OutOfMemory → HasNoTexts i e ⊎ Yields i IsNoProof e
without_memory i v e (inl come) is = inl (wants_memory i come.problem come.text e come.texts is)
without_memory i v e (inr come) is =
    inr (inr (record { problem = come.problem; text = come.text; texts = come.texts; holds = (ProofMemory, is, ((λ v shows. inl refl), inl come.texts.streamed.version)) }))

-- a part whose front had been read when the rest was checked as it was read
pub adds_of : {S T : Type 0} (bytes : S → Option (List ℕ)) (before mid after : CountedDevice S) (front : List ℕ) (old new : CoverValue) (r : Result T VerifyError) → ReadsFront bytes 11 before mid front → StatesVersionTwo front
    → MatchResult r (λ done. StreamAdds (prepend_known front (bytes mid.inner)) old new) (λ e. RefusesStream old.instance (prepend_known front (bytes mid.inner)) e × (new ≡ old))
    → MatchResult r (λ done. HasAdded (input_of bytes before after) old new) (λ e. HasNotAdded (input_of bytes before after) old.instance e × (new ≡ old))
adds_of bytes before mid after front old new (Ok done) first two h = record {
  text = h.text;
  read = inr (record { version = h.version; whole = all_of (bytes before.inner) (bytes mid.inner) front h.text first.bytes h.whole });
  part = inr h.part;
}
adds_of bytes before mid after front old new (Err e) first two h =
    let b = known_of old.instance (bytes before.inner) (bytes mid.inner) front h.0.0 first.bytes two h.0.2 in (
      inr (inl (record {
        text = b.text;
        read = inr (record { version = b.version; whole = b.whole });
        fault = h.0.0;
        is = h.0.1;
        refused = (b.refuses, inl b.version);
      })),
      h.1,
    )

-- the whole of a part of which the front had been read
pub text_of : {S : Type 0} (bytes : S → Option (List ℕ)) (old mid new : CountedDevice S) (front text : List ℕ) → ReadsFront bytes 11 old mid front → ReadsBehind bytes max_input mid new front text → HasText (input_of bytes old new) text
text_of bytes old mid new front text first behind = whole_of bytes 11 max_input old mid new front text (omega (arith, first.within)) first behind

-- what keeps the bytes behind the front of a part from being read keeps the part from it
pub part_unread : {S : Type 0} (bytes : S → Option (List ℕ)) (old mid new : CountedDevice S) (front : List ℕ) (fault : TextError) (e : VerifyError) → ReadsFront bytes 11 old mid front → (StatesVersionTwo front → ⊥)
    → IsReadFault bytes (max_input - length front) mid new fault → e ≡ of_text fault → PartUnread (input_of bytes old new) e
part_unread bytes old mid new front fault e first other h is = record {
  fault = fault;
  is = is;
  read = fault_of bytes 11 max_input old mid new front fault (omega (arith, first.within)) first h;
  unstreamed = too_long_unstreamed bytes old mid new front fault first other;
}
