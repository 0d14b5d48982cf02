-- Why a run yields no verdict, and how that is reported.
use Rattle.std.specs.Prelude.{◌≡◌, ℕ, ◌⊎◌, List, Option}
use Rattle.qap_cost.specs.Instance.{Problem}
use Rattle.qap_io.specs.Refusal.{RefusalText, memory_refusal, device_refusal}
use Rattle.qap_proof.specs.Refusal.{proof_refusal}
use Rattle.qap_proof.specs.declared.error.ProofError.{ProofError}
use Rattle.qap_proof.specs.declared.error.ProofError.TheVariants.{OutOfMemory as ProofMemory, Device as ProofDevice}
use Rattle.proof_versions.specs.Streams.{StreamRefuses}
use Rattle.proof_versions.specs.Versions.{EitherIsRefused}
use Rattle.qap_text.specs.Input.{HasInstance, HasNoInstance, max_input}
use Rattle.qap_text.specs.Refusal.{text_refusal}
use Rattle.qap_text.specs.Whole.{IsReadFault}
use Rattle.qap_text.specs.declared.error.TextError.{TextError}
use Rattle.qap_text.specs.declared.error.TextError.TheVariants.{OutOfMemory as TextMemory, Device as TextDevice}
use Rattle.qap_verify.specs.Texts.{Inputs, IsTooLongUnstreamed, IsUnread, ProofWaits, KeepsCounts}
use Rattle.qap_verify.specs.declared.refusal.VerifyError.{VerifyError}
use Rattle.qap_verify.specs.declared.refusal.VerifyError.TheVariants.{Text, Proof, OutOfMemory, Device}

-- the run's error for a fault of a text: out of memory and a failed device are the run's own
abbrev pub of_text : TextError → VerifyError
of_text TextMemory = OutOfMemory
of_text TextDevice = Device
of_text e = Text e

-- likewise for a fault of a proof
abbrev pub of_proof : ProofError → VerifyError
of_proof ProofMemory = OutOfMemory
of_proof ProofDevice = Device
of_proof e = Proof e

-- the run's error is that for some fault of a proof, which is none where these bytes are known and are the text of a proof with pair duals
abbrev pub RefusesStream : Problem → Option (List ℕ) → VerifyError → Type 0
RefusesStream I known e = (fault : ProofError) × (e ≡ of_proof fault) × StreamRefuses I known fault

-- the first input does not begin with an instance, and the proof was not read
pub record NoInstance {R S : Type 0} (i : Inputs R S) (e : VerifyError) : Type 0 where
  pub fault : TextError
  pub is : e ≡ of_text fault
  pub of_input : HasNoInstance i.first fault
  pub unread : IsUnread i

-- an instance was read, and then the bytes of the proof cannot be read within the limit, which holds unless they state version 2
pub record ProofUnread {R S : Type 0} (i : Inputs R S) (e : VerifyError) : Type 0 where
  pub fault : TextError
  pub is : e ≡ of_text fault
  pub problem : Problem
  pub rest : List ℕ
  pub instance_read : HasInstance i.first problem rest
  pub read : IsReadFault i.second.bytes max_input i.second.before i.second.after fault
  pub unstreamed : IsTooLongUnstreamed i.second fault

-- memory ran out, and no call of a reader failed
pub record WantsMemory {R S : Type 0} (i : Inputs R S) (e : VerifyError) : Type 0 where
  pub is : e ≡ OutOfMemory
  pub kept : KeepsCounts i
  pub waits : ProofWaits i

-- why there is no instance with the text of a proof
abbrev pub HasNoTexts : {R S : Type 0} → Inputs R S → VerifyError → Type 0
HasNoTexts i e = NoInstance i e ⊎ (ProofUnread i e ⊎ WantsMemory i e)

-- the text is refused as a proof in either version that proves its bound
abbrev pub IsNoProof : Problem → List ℕ → VerifyError → Type 0
IsNoProof I text e = (fault : ProofError) × (e ≡ of_proof fault) × EitherIsRefused I text fault

-- the refusal that reports a run's error
abbrev pub refusal_of : VerifyError → RefusalText
refusal_of (Text e) = text_refusal e
refusal_of (Proof e) = proof_refusal e
refusal_of OutOfMemory = memory_refusal
refusal_of Device = device_refusal

-- the exit status of a refusal: 3 if out of memory, else 1
abbrev pub status_of : VerifyError → ℕ
status_of OutOfMemory = 3
status_of _ = 1
