-- Proofs of parts, in either version, added to the proof of a whole, and the line of what they establish together.
use Rattle.std.specs.Prelude.{◌≡◌, ℕ, ◌⊎◌, List, Option}
use Rattle.qap_cost.specs.Instance.{Problem}
use Rattle.qap_io.specs.Counting.{CountedDevice}
use Rattle.qap_io.specs.Writing.{BreaksOff, Sends}
use Rattle.qap_proof.specs.Cover.{CoverValue, IsSoOf, IsVerdictOn}
use Rattle.qap_proof.specs.declared.acceptance.Verdict.{Verdict}
use Rattle.qap_proof.specs.declared.error.ProofError.{ProofError}
use Rattle.proof_versions.specs.Adding.{HasEitherPart}
use Rattle.proof_versions.specs.Versions.{EitherIsRefused}
use Rattle.qap_text.specs.Input.{HasText, Input, max_input}
use Rattle.qap_text.specs.Whole.{IsReadFault}
use Rattle.qap_text.specs.declared.error.TextError.{TextError}
use Rattle.qap_verify.specs.Answering.{answer_line}
use Rattle.qap_verify.specs.Refusal.{of_proof, of_text}
use Rattle.qap_verify.specs.Texts.{IsTooLongUnstreamed, StreamsText}
use Rattle.qap_verify.specs.declared.refusal.VerifyError.{VerifyError}
use Rattle.qap_verify.specs.declared.refusal.VerifyError.TheVariants.{OutOfMemory, Device}

-- the input is the text of the proof of a part in either version, which has been added to the others
pub record HasAdded {S : Type 0} (i : Input S) (old new : CoverValue) : Type 0 where
  pub text : List ℕ
  pub read : HasText i text ⊎ StreamsText i text
  pub part : HasEitherPart text old new

-- the text is refused as a proof in either version that proves its bound
pub record IsNoPart {S : Type 0} (i : Input S) (I : Problem) (e : VerifyError) : Type 0 where
  pub text : List ℕ
  pub read : HasText i text ⊎ StreamsText i text
  pub fault : ProofError
  pub is : e ≡ of_proof fault
  pub refused : EitherIsRefused I text fault

-- the bytes cannot be read within the limit, which holds unless they state version 2
pub record PartUnread {S : Type 0} (i : Input S) (e : VerifyError) : Type 0 where
  pub fault : TextError
  pub is : e ≡ of_text fault
  pub read : IsReadFault i.bytes max_input i.before i.after fault
  pub unstreamed : IsTooLongUnstreamed i fault

-- memory ran out, and no call of the reader failed
pub record PartWantsMemory {S : Type 0} (i : Input S) (e : VerifyError) : Type 0 where
  pub is : e ≡ OutOfMemory
  pub kept : i.after.failures ≡ i.before.failures

-- the bytes cannot be read, the text is at fault, or memory ran out
abbrev pub HasNotAdded : {S : Type 0} → Input S → Problem → VerifyError → Type 0
HasNotAdded i I e = PartUnread i e ⊎ (IsNoPart i I e ⊎ PartWantsMemory i e)

-- the verdict is what the proofs establish together, and it is true
abbrev pub ShowTogether : CoverValue → Verdict → Type 0
ShowTogether c v = IsVerdictOn c v × IsSoOf c.instance c.root v

-- they establish the verdict, and the line of it has been written
abbrev pub HasShown : {W : Type 0} → CoverValue → (W → Option (List ℕ)) → CountedDevice W → CountedDevice W → Verdict → Type 0
HasShown c contents old new v = ShowTogether c v × Sends contents old new (answer_line v)

-- memory ran out, and nothing has been written; or the writer failed after a prefix of the line
abbrev pub HasNotShown : {W : Type 0} → CoverValue → (W → Option (List ℕ)) → CountedDevice W → CountedDevice W → VerifyError → Type 0
HasNotShown c contents old new e =
    ((e ≡ OutOfMemory) × (new ≡ old)) ⊎ ((e ≡ Device) × (v : Verdict) × ShowTogether c v × BreaksOff contents old new (answer_line v))
