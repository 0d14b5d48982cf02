-- Why a run yields no verdict, and how that is reported.
use Rattle.std.specs.Prelude.{◌≡◌, ℕ, ◌⊎◌, List, Option, Some, None, codes}
use Rattle.qap_cost.specs.Instance.{Problem}
use Rattle.qap_io.specs.Counting.{CountedDevice}
use Rattle.qap_io.specs.Refusal.{RefusalText, memory_refusal, device_refusal}
use Rattle.qap_cert.specs.Acceptance.{IsRefused}
use Rattle.qap_cert.specs.declared.error.CertError.{CertError}
use Rattle.qap_cert.specs.declared.error.CertError.TheVariants.{OutOfMemory as CertificateMemory, Device as CertificateDevice}
use Rattle.qap_cert.specs.Refusal.{certificate_refusal}
use Rattle.qap_text.specs.Input.{HasInstance, HasNoInstance, max_input}
use Rattle.qap_text.specs.SolutionText.{IsSolutionFault}
use Rattle.qap_text.specs.Whole.{IsReadFault}
use Rattle.qap_text.specs.Refusal.{text_refusal}
use Rattle.qap_text.specs.declared.error.TextError.{TextError}
use Rattle.qap_text.specs.declared.error.TextError.TheVariants.{OutOfMemory as TextMemory, Device as TextDevice}
use Rattle.qap_check.specs.declared.refusal.CheckError.{CheckError}
use Rattle.qap_check.specs.declared.refusal.CheckError.TheVariants.{Text, Certificate, OutOfMemory, Device}
use Rattle.qap_check.specs.Source.{Source, SecondWaits, KeepsCounts}

-- the run's error for a fault of a text: out of memory and a failed device are the run's own
abbrev pub of_text : TextError → CheckError
of_text TextMemory = OutOfMemory
of_text TextDevice = Device
of_text e = Text e

-- likewise for a fault of a certificate
abbrev pub of_certificate : CertError → CheckError
of_certificate CertificateMemory = OutOfMemory
of_certificate CertificateDevice = Device
of_certificate e = Certificate e

-- the first input does not begin with an instance, and the second reader is unchanged
pub record NoInstance {R S : Type 0} (s : Source R S) (e : CheckError) : Type 0 where
  pub fault : TextError
  pub is : e ≡ of_text fault
  pub of_input : HasNoInstance s.first fault
  pub waits : s.second_after ≡ s.second

-- there is a second reader, and its bytes cannot be read within the limit
abbrev pub IsSecondFault : {S : Type 0} → (S → Option (List ℕ)) → Option (CountedDevice S) → Option (CountedDevice S) → TextError → Type 0
IsSecondFault bytes (Some old) (Some new) e = IsReadFault bytes max_input old new e
IsSecondFault bytes _ _ e = ⊥

-- an instance was read, and then the second reader's bytes cannot be read within the limit
pub record SecondUnread {R S : Type 0} (s : Source R S) (e : CheckError) : Type 0 where
  pub fault : TextError
  pub is : e ≡ of_text fault
  pub instance : Problem
  pub rest : List ℕ
  pub first : HasInstance s.first instance rest
  pub read : IsSecondFault s.second_bytes s.second s.second_after fault

-- memory ran out, and no call of a reader failed
pub record WantsMemory {R S : Type 0} (s : Source R S) (e : CheckError) : Type 0 where
  pub is : e ≡ OutOfMemory
  pub kept : KeepsCounts s
  pub waits : SecondWaits s

-- why there is no instance with a second text
abbrev pub HasNoTexts : {R S : Type 0} → Source R S → CheckError → Type 0
HasNoTexts s e = NoInstance s e ⊎ (SecondUnread s e ⊎ WantsMemory s e)

-- the text has this first fault as a solution
abbrev pub IsNoSolution : Problem → List ℕ → CheckError → Type 0
IsNoSolution I text e = (fault : TextError) × (e ≡ of_text fault) × IsSolutionFault text I.size fault

-- the text has this first fault as a certificate, of a least cost or of a gap
abbrev pub IsNoProof : Problem → List ℕ → CheckError → Type 0
IsNoProof I text e = (fault : CertError) × (e ≡ of_certificate fault) × IsRefused I text fault

-- the refusal that reports a run's error
abbrev pub refusal_of : CheckError → RefusalText
refusal_of (Text e) = text_refusal e
refusal_of (Certificate e) = certificate_refusal e
refusal_of OutOfMemory = memory_refusal
refusal_of Device = device_refusal

-- the exit status of a refusal: 3 if out of memory, else 1
abbrev pub status_of : CheckError → ℕ
status_of OutOfMemory = 3
status_of _ = 1
