-- Three kinds of faults. One of grammar is visible without the instance: a text that has it is that of no proof. One of content is found in
-- a text of a proof that is not valid for the instance. An interruption says nothing about the text.
use Rattle.std.specs.Prelude.{◌≡◌, ◌⊎◌, ℕ, List, Option, Some}
use Rattle.qap_cost.specs.Instance.{Problem}
use Rattle.qap_proof.specs.declared.error.ProofError.{ProofError}
use Rattle.qap_proof.specs.declared.error.ProofError.TheVariants.{SizeDiffers, CostDiffers, NotFeasible, BoundTooLow, CutTooLow, NotAnImage, OutOfMemory, Device}
use Rattle.proof_tree.specs.Claim.{PairClaim, PairProves, IsPairProofText}
use Rattle.proof_check.specs.Acceptance.{IsInterruption}

-- the kinds of faults
pub data FaultKind : Type 0 where
  grammar : FaultKind
  content : FaultKind
  interruption : FaultKind

-- the kind of a fault
abbrev pub kind_of : ProofError → FaultKind
kind_of (SizeDiffers _) = content
kind_of (CostDiffers _) = content
kind_of (NotFeasible _) = content
kind_of (BoundTooLow _) = content
kind_of (CutTooLow _) = content
kind_of (NotAnImage _) = content
kind_of OutOfMemory = interruption
kind_of Device = interruption
kind_of _ = grammar

-- the text is that of some proof with pair duals
abbrev pub IsGrammatical : List ℕ → Type 0
IsGrammatical text = (C : PairClaim) × IsPairProofText text C

-- it is that of one that is valid for the instance
abbrev pub IsProved : Problem → List ℕ → Type 0
IsProved I text = (C : PairClaim) × IsPairProofText text C × PairProves I C

-- why a text is refused: it is that of no proof; or it is that of a proof, but of none that is valid; or the check was interrupted
abbrev pub IsPairRefusal : Problem → List ℕ → ProofError → Type 0
IsPairRefusal I text e =
    ((kind_of e ≡ grammar) × (IsGrammatical text → ⊥))
    ⊎ (((kind_of e ≡ content) × IsGrammatical text × (IsProved I text → ⊥)) ⊎ IsInterruption e)

-- likewise for the bytes that a reader had, if they are known
abbrev pub RefusesPairs : Problem → Option (List ℕ) → ProofError → Type 0
RefusesPairs I old e = (text : List ℕ) → old ≡ Some text → IsPairRefusal I text e

-- a fault that reading alone can find
abbrev pub IsReadFault : ProofError → Type 0
IsReadFault e = (kind_of e ≡ grammar) ⊎ IsInterruption e
