-- What a reader's bytes establish as the text of a proof with pair duals.
use Rattle.std.specs.Prelude.{◌≡◌, ℕ, ℤ, List, Option, Some, IfSome}
use Rattle.qap_cost.specs.Instance.{Problem}
use Rattle.qap_cost.specs.Placement.{Placement}
use Rattle.qap_proof.specs.Cover.{CoverValue}
use Rattle.qap_proof.specs.declared.acceptance.Verdict.{Verdict}
use Rattle.proof_check.specs.Acceptance.{ShowsPairVerdict}
use Rattle.qap_proof.specs.declared.error.ProofError.{ProofError}
use Rattle.proof_versions.specs.Adding.{HasPairPart}
use Rattle.proof_versions.specs.Opening.{PairsOpen}
use Rattle.proof_versions.specs.OverRoot.{PairProvesFor}
use Rattle.proof_check.specs.Fault.{IsPairRefusal}
use Rattle.proof_versions.specs.Versions.{EitherIsSo, StatesVersionTwo}

-- the text, which is all that the reader had if that is known, is that of a proof which establishes the verdict, and the verdict is true
pub record StreamShows (I : Problem) (known : Option (List ℕ)) (verdict : Verdict) : Type 0 where
  pub text : List ℕ
  pub whole : IfSome known (λ xs. xs ≡ text)
  pub version : StatesVersionTwo text
  pub shows : ShowsPairVerdict I text verdict
  pub so : EitherIsSo I text verdict

-- where the bytes are known, why they are refused: they are the text of no proof with pair duals; or that of one, but of none that is
-- valid for the instance; or the check was interrupted
abbrev pub StreamRefuses : Problem → Option (List ℕ) → ProofError → Type 0
StreamRefuses I known e = (text : List ℕ) → known ≡ Some text → IsPairRefusal I text e

-- the text, which is all that the reader had if that is known, is that of a proof over root x, of cost c and bound g, which it proves
pub record StreamProves (I : Problem) (known : Option (List ℕ)) (x : Placement) (c g : ℤ) : Type 0 where
  pub text : List ℕ
  pub whole : IfSome known (λ xs. xs ≡ text)
  pub version : StatesVersionTwo text
  pub proves : PairProvesFor I text x c g

-- likewise, and it is the proof of the whole, without parts
pub record StreamOpens (I : Problem) (known : Option (List ℕ)) (c : CoverValue) : Type 0 where
  pub text : List ℕ
  pub whole : IfSome known (λ xs. xs ≡ text)
  pub version : StatesVersionTwo text
  pub opened : PairsOpen I text c

-- likewise, and it is the proof of a part, which has been added
pub record StreamAdds (known : Option (List ℕ)) (old new : CoverValue) : Type 0 where
  pub text : List ℕ
  pub whole : IfSome known (λ xs. xs ≡ text)
  pub version : StatesVersionTwo text
  pub part : HasPairPart text old new
