-- What a text with pair duals establishes about an instance's costs, and that no valid one is refused.
use Rattle.std.specs.Prelude.{◌≡◌, ◌⊎◌, ℕ, ◌<◌, ◌++◌, ◌∷◌, [], List, length, ℤ, pos, codes, ◌<ℤ◌, Option, None, Some, IfSome}
use Rattle.std.specs.Io.KnownBytes.{Appends}
use Rattle.qap_cost.specs.Bijection.{IsPerm}
use Rattle.qap_cost.specs.Instance.{Problem}
use Rattle.qap_cost.specs.Placement.{Placement}
use Rattle.qap_cost.specs.Range.{IsLimited}
use Rattle.qap_io.specs.Number.{from_one}
use Rattle.qap_lines.specs.Bound.{IsBoundFor}
use Rattle.qap_lines.specs.LineText.{line_text}
use Rattle.pair_duals.specs.CostStep.{step_of}
use Rattle.qap_proof.specs.Claim.{IsRoot}
use Rattle.qap_proof.specs.Text.{root_text, bound_text}
use Rattle.qap_proof.specs.declared.error.ProofError.{ProofError}
use Rattle.qap_proof.specs.declared.error.ProofError.TheVariants.{Device, OutOfMemory}
use Rattle.qap_proof.specs.declared.acceptance.Verdict.{Verdict}
use Rattle.qap_proof.specs.declared.acceptance.Verdict.TheVariants.{Optimal, Gap, Part}
use Rattle.qap_proof.specs.declared.leaf.Leaf.{Leaf}
use Rattle.proof_tree.specs.Claim.{PairClaim, PairProves, IsPairProofText, pair_claim}
use Rattle.proof_tree.specs.Leaves.{HasLeaves}
use Rattle.proof_tree.specs.Tree.{Tree}
use Rattle.proof_check.specs.Flow.{Flow, Passes}

-- the verdict of what a proof states: if its root is empty its cost, if that is its bound, else both; otherwise its bound
abbrev pub IsPairVerdictOf : PairClaim → Verdict → Type 0
IsPairVerdictOf C (Optimal c) = (length C.root.facilities ≡ 0) × (C.bound ≡ C.cost) × (C.cost ≡ c)
IsPairVerdictOf C (Gap g c) = (length C.root.facilities ≡ 0) × (C.bound ≡ g) × (C.cost ≡ c) × (g <ℤ c)
IsPairVerdictOf C (Part g) = (0 < length C.root.facilities) × (C.bound ≡ g)

-- the text is that of a proof which establishes the verdict
pub record ShowsPairVerdict (I : Problem) (text : List ℕ) (verdict : Verdict) : Type 0 where
  pub proof : PairClaim
  pub is_text : IsPairProofText text proof
  pub proved : PairProves I proof
  pub says : IsPairVerdictOf proof verdict

-- the text, which is all that the reader had if that is known, is such a text
pub record ReadsVerdict (I : Problem) (old : Option (List ℕ)) (verdict : Verdict) : Type 0 where
  pub text : List ℕ
  pub whole : IfSome old (λ xs. xs ≡ text)
  pub shows : ShowsPairVerdict I text verdict

-- the text is that of a proof over root x, of cost c and bound g, which it proves, and these are the leaves of its tree with values
-- below the limit
pub record ShowsLeaves (I : Problem) (text : List ℕ) (x : Placement) (c g limit : ℤ) (ls : List Leaf) : Type 0 where
  pub permutation : List ℕ
  pub tree : Tree
  pub is_text : IsPairProofText text (pair_claim x c g permutation tree)
  pub proved : PairProves I (pair_claim x c g permutation tree)
  pub leaves : HasLeaves I (step_of I) g limit x None tree ls

-- the text, which is all that the reader had if that is known, is such a text
pub record ReadsLeaves (I : Problem) (old : Option (List ℕ)) (x : Placement) (c g limit : ℤ) (ls : List Leaf) : Type 0 where
  pub text : List ℕ
  pub whole : IfSome old (λ xs. xs ≡ text)
  pub shows : ShowsLeaves I text x c g limit ls

-- likewise, with this permutation, and the text was copied as it was read
pub record CopiesLeaves (I : Problem) (old new : Flow) (x : Placement) (c g limit : ℤ) (p : List ℕ) (ls : List Leaf) : Type 0 where
  pub text : List ℕ
  pub whole : IfSome old.left (λ xs. xs ≡ text)
  pub copied : Appends old.copied new.copied text
  pub tree : Tree
  pub is_text : IsPairProofText text (pair_claim x c g p tree)
  pub proved : PairProves I (pair_claim x c g p tree)
  pub leaves : HasLeaves I (step_of I) g limit x None tree ls

-- memory ran out, or the reader or the writer failed
abbrev pub IsInterruption : ProofError → Type 0
IsInterruption e = (e ≡ OutOfMemory) ⊎ (e ≡ Device)

-- bytes that are known to be the text of a proof which establishes a verdict are refused only by an interruption
abbrev pub RefusesNoProof : Problem → Option (List ℕ) → ProofError → Type 0
RefusesNoProof I old e = (text : List ℕ) (verdict : Verdict) → old ≡ Some text → ShowsPairVerdict I text verdict → IsInterruption e

-- the lines before the tree, which state a root, a cost, a bound and a permutation
abbrev pub pair_head_text : Placement → ℤ → ℤ → List ℕ → List ℕ
pair_head_text x c g p =
    line_text (codes "qapproof") (pos 2 ∷ []) ++ line_text (codes "n") (pos (length p) ∷ []) ++ line_text (codes "cost") (c ∷ [])
    ++ line_text (codes "perm") (from_one p) ++ root_text x.facilities x.places ++ bound_text c g

-- they were read, and the line after them
pub record ReadsHead (x : Placement) (c g : ℤ) (p line : List ℕ) (old new : Flow) : Type 0 where
  pub cost : IsLimited c
  pub bound : IsBoundFor c g
  pub permutation : IsPerm p
  pub root : IsRoot (length p) x
  pub consumed : Passes old new (pair_head_text x c g p ++ line ++ 10 ∷ [])
