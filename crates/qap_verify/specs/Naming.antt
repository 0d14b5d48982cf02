-- Runs on named files. The possible contents of files are a relation of names and bytes.
use Rattle.std.specs.Prelude.{◌≡◌, ◌⊎◌, ℕ, ℤ, List, [], ◌∷◌, ◌++◌, Option, IfSome}
use Rattle.qap_cost.specs.Instance.{Problem}
use Rattle.qap_io.specs.Counting.{CountedDevice}
use Rattle.qap_proof.specs.Cover.{CoverValue}
use Rattle.qap_proof.specs.declared.acceptance.Verdict.{Verdict}
use Rattle.proof_versions.specs.Opening.{EitherOpens}
use Rattle.qap_text.specs.Input.{Input, input_of}
use Rattle.qap_verify.specs.Answering.{HasRun, HasTold, verdict_status}
use Rattle.qap_verify.specs.Parts.{HasAdded, HasNotAdded, HasNotShown, HasShown}
use Rattle.qap_verify.specs.Refusal.{HasNoTexts, IsNoProof, status_of}
use Rattle.qap_verify.specs.Texts.{Inputs, Yields}
use Rattle.qap_verify.specs.declared.refusal.VerifyError.{VerifyError}
use Rattle.qap_verify.specs.declared.refusal.VerifyError.TheVariants.{Device}

-- what a reader has, if that is known, is what the file of this name may contain
abbrev pub IsReaderOf : {F : Type 0} → (List ℕ → List ℕ → Type 0) → (F → Option (List ℕ)) → List ℕ → F → Type 0
IsReaderOf Holds bytes name reader = IfSome (bytes reader) (Holds name)

-- a run on an instance and the proof in the file of this name
pub record RunsOnFile {R F W E : Type 0} (Holds : List ℕ → List ℕ → Type 0) (bytes : F → Option (List ℕ)) (name : List ℕ) (first : Input R) (wanted : Option ℤ)
    (contents : W → Option (List ℕ)) (old new : CountedDevice W) (told : E → Option (List ℕ)) (errors behind : CountedDevice E) (exit : ℕ) : Type 0 where
  pub before : CountedDevice F
  pub after : CountedDevice F
  pub reader : IsReaderOf Holds bytes name before.inner
  pub run : HasRun (record { first = first; second = input_of bytes before after }) wanted contents old new told errors behind exit

-- there was no such run, since the file could not be opened: nothing was written, and that was reported
pub record HasNoFile {W E : Type 0} (old new : CountedDevice W) (told : E → Option (List ℕ)) (errors behind : CountedDevice E) (exit : ℕ) : Type 0 where
  pub nothing : new ≡ old
  pub reported : HasTold told errors behind Device
  pub ends : exit ≡ status_of Device

-- the proof of a part in the file of this name has been added to others
pub record AddsFile {F : Type 0} (Holds : List ℕ → List ℕ → Type 0) (bytes : F → Option (List ℕ)) (name : List ℕ) (old new : CoverValue) : Type 0 where
  pub before : CountedDevice F
  pub after : CountedDevice F
  pub reader : IsReaderOf Holds bytes name before.inner
  pub added : HasAdded (input_of bytes before after) old new

-- those in the files of these names, one after the other
abbrev pub AddsEach : {F : Type 0} → (List ℕ → List ℕ → Type 0) → (F → Option (List ℕ)) → List (List ℕ) → CoverValue → CoverValue → Type 0
AddsEach Holds bytes [] old new = new ≡ old
AddsEach Holds bytes (name ∷ names) old new = (next : CoverValue) × AddsFile Holds bytes name old next × AddsEach Holds bytes names next new

-- why the proof of a part in the file of this name was not added to others
pub record HasNoPart {F : Type 0} (Holds : List ℕ → List ℕ → Type 0) (bytes : F → Option (List ℕ)) (name : List ℕ) (I : Problem) (e : VerifyError) : Type 0 where
  pub before : CountedDevice F
  pub after : CountedDevice F
  pub reader : IsReaderOf Holds bytes name before.inner
  pub refused : HasNotAdded (input_of bytes before after) I e

-- the file could not be opened, or its proof was not added
abbrev pub RefusesFile : {F : Type 0} → (List ℕ → List ℕ → Type 0) → (F → Option (List ℕ)) → List ℕ → Problem → VerifyError → Type 0
RefusesFile Holds bytes name I e = (e ≡ Device) ⊎ HasNoPart Holds bytes name I e

-- those in the first of these files have been added, and that in the next was refused
pub record AddsFirst {F : Type 0} (Holds : List ℕ → List ℕ → Type 0) (bytes : F → Option (List ℕ)) (names : List (List ℕ)) (old new : CoverValue) (e : VerifyError) : Type 0 where
  pub first : List (List ℕ)
  pub next : List ℕ
  pub rest : List (List ℕ)
  pub are : names ≡ first ++ next ∷ rest
  pub added : AddsEach Holds bytes first old new
  pub refused : RefusesFile Holds bytes next new.instance e

-- the verdict of the proof of a whole, with those of parts in these files beside it, has been written, and this is its status
pub record JoinsParts {R S F W : Type 0} (Holds : List ℕ → List ℕ → Type 0) (bytes : F → Option (List ℕ)) (parts : List (List ℕ)) (i : Inputs R S) (wanted : Option ℤ)
    (contents : W → Option (List ℕ)) (old new : CountedDevice W) (exit : ℕ) : Type 0 where
  pub opened : CoverValue
  pub whole : Yields i EitherOpens opened
  pub all : CoverValue
  pub added : AddsEach Holds bytes parts opened all
  pub verdict : Verdict
  pub shown : HasShown all contents old new verdict
  pub ends : exit ≡ verdict_status wanted verdict

-- a whole was opened, but one of the parts was refused, or the verdict could not be written
pub record LacksParts {R S F W : Type 0} (Holds : List ℕ → List ℕ → Type 0) (bytes : F → Option (List ℕ)) (parts : List (List ℕ)) (i : Inputs R S)
    (contents : W → Option (List ℕ)) (old new : CountedDevice W) (e : VerifyError) : Type 0 where
  pub opened : CoverValue
  pub whole : Yields i EitherOpens opened
  pub all : CoverValue
  pub reason : (AddsFirst Holds bytes parts opened all e × (new ≡ old)) ⊎ (AddsEach Holds bytes parts opened all × HasNotShown all contents old new e)

-- why no verdict of a whole with parts has been written
abbrev pub HasNotJoined : {R S F W : Type 0} → (List ℕ → List ℕ → Type 0) → (F → Option (List ℕ)) → List (List ℕ) → Inputs R S
    → (W → Option (List ℕ)) → CountedDevice W → CountedDevice W → VerifyError → Type 0
HasNotJoined Holds bytes parts i contents old new e =
    ((HasNoTexts i e ⊎ Yields i IsNoProof e) × (new ≡ old)) ⊎ LacksParts Holds bytes parts i contents old new e

-- that of a whole in the file of this name
pub record Covers {R F W : Type 0} (Holds : List ℕ → List ℕ → Type 0) (bytes : F → Option (List ℕ)) (name : List ℕ) (parts : List (List ℕ)) (first : Input R) (wanted : Option ℤ)
    (contents : W → Option (List ℕ)) (old new : CountedDevice W) (exit : ℕ) : Type 0 where
  pub before : CountedDevice F
  pub after : CountedDevice F
  pub reader : IsReaderOf Holds bytes name before.inner
  pub run : JoinsParts Holds bytes parts (record { first = first; second = input_of bytes before after }) wanted contents old new exit

-- that file could not be opened, and nothing was written; or it was opened
pub record HasNotJoinedFile {R F W : Type 0} (Holds : List ℕ → List ℕ → Type 0) (bytes : F → Option (List ℕ)) (name : List ℕ) (parts : List (List ℕ)) (first : Input R)
    (contents : W → Option (List ℕ)) (old new : CountedDevice W) (e : VerifyError) : Type 0 where
  pub before : CountedDevice F
  pub after : CountedDevice F
  pub reader : IsReaderOf Holds bytes name before.inner
  pub run : HasNotJoined Holds bytes parts (record { first = first; second = input_of bytes before after }) contents old new e

abbrev pub HasNotCovered : {R F W : Type 0} → (List ℕ → List ℕ → Type 0) → (F → Option (List ℕ)) → List ℕ → List (List ℕ) → Input R
    → (W → Option (List ℕ)) → CountedDevice W → CountedDevice W → VerifyError → Type 0
HasNotCovered Holds bytes name parts first contents old new e =
    ((e ≡ Device) × (new ≡ old)) ⊎ HasNotJoinedFile Holds bytes name parts first contents old new e
