-- A proof refined at one of its leaves.
use Rattle.std.specs.Prelude.{◌≡◌, ℤ}
use Rattle.qap_cost.specs.Instance.{Problem}
use Rattle.qap_proof.specs.Claim.{Claim, IsProof, Proves}

-- a proof over the same root, with the part's permutation and its cost, and with this bound
pub record IsGrafted (old part : Claim) (g : ℤ) (new : Claim) : Type 0 where
  pub shape : IsProof new
  pub root : new.root ≡ old.root
  pub permutation : new.permutation ≡ part.permutation
  pub cost : new.cost ≡ part.cost
  pub bound : new.bound ≡ g

-- such a proof, which proves its bound for the instance
pub record IsRefined (I : Problem) (old part : Claim) (g : ℤ) (new : Claim) : Type 0 where
  pub grafted : IsGrafted old part g new
  pub proves : Proves I new
