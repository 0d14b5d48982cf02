-- Proofs of parts in either version, added to that of a whole.
use Rattle.std.specs.Prelude.{◌⊎◌, ℕ, List}
use Rattle.qap_proof.specs.Cover.{CoverValue, HasPart, IsAdmitted}
use Rattle.proof_tree.specs.Claim.{IsPairProofText, PairClaim, PairProves}

-- the proof of a part with pair duals, which is the text, has been added
pub record HasPairPart (text : List ℕ) (old new : CoverValue) : Type 0 where
  pub proof : PairClaim
  pub is_text : IsPairProofText text proof
  pub proved : PairProves old.instance proof
  pub admitted : IsAdmitted proof.root proof.cost proof.bound old new

-- likewise for either version
abbrev pub HasEitherPart : List ℕ → CoverValue → CoverValue → Type 0
HasEitherPart text old new = HasPart text old new ⊎ HasPairPart text old new
