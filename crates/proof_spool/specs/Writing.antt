-- The text of a proof that is checked as it is written.
use Rattle.std.specs.Prelude.{ℕ, ℤ, List, Option}
use Rattle.std.specs.Io.KnownBytes.{Appends}
use Rattle.qap_cost.specs.Instance.{Problem}
use Rattle.qap_cost.specs.Placement.{Placement}
use Rattle.proof_tree.specs.Claim.{IsPairProofText, PairProves, pair_claim}
use Rattle.proof_tree.specs.Tree.{Tree}

-- the text is that of a proof over root x, with this permutation, of cost c and bound g, which it proves
pub record ShowsProof (I : Problem) (x : Placement) (p : List ℕ) (c g : ℤ) (text : List ℕ) : Type 0 where
  pub tree : Tree
  pub is_text : IsPairProofText text (pair_claim x c g p tree)
  pub proved : PairProves I (pair_claim x c g p tree)

-- such a text was appended
pub record WritesProof (I : Problem) (x : Placement) (p : List ℕ) (c g : ℤ) (old new : Option (List ℕ)) : Type 0 where
  pub text : List ℕ
  pub shows : ShowsProof I x p c g text
  pub appended : Appends old new text
