-- What a text of a proof in either version establishes about an instance's costs: version 1, or version 2, which has pair duals.
use Rattle.std.specs.Prelude.{◌≡◌, ◌⊎◌, ℕ, ◌++◌, ◌∷◌, [], List, pos, codes, ◌<ℤ◌}
use Rattle.qap_cost.specs.Instance.{Problem}
use Rattle.qap_cost.specs.Objective.{IsLeast, NoneCostsLess, Permutes, cost_of}
use Rattle.qap_cost.specs.Placement.{Placement}
use Rattle.qap_lines.specs.LineText.{line_text}
use Rattle.qap_proof.specs.Acceptance.{IsRefused, ShowsVerdict}
use Rattle.qap_proof.specs.Claim.{Claim, NoneCompletesForLess}
use Rattle.qap_proof.specs.Text.{IsProofText}
use Rattle.qap_proof.specs.declared.acceptance.Verdict.{Verdict}
use Rattle.qap_proof.specs.declared.acceptance.Verdict.TheVariants.{Gap, Optimal, Part}
use Rattle.qap_proof.specs.declared.error.ProofError.{ProofError}
use Rattle.proof_tree.specs.Claim.{IsPairProofText, PairClaim}
use Rattle.proof_check.specs.Acceptance.{IsInterruption, ShowsPairVerdict}

-- the text begins with the line that states version 2
abbrev pub StatesVersionTwo : List ℕ → Type 0
StatesVersionTwo text = (rest : List ℕ) × (text ≡ line_text (codes "qapproof") (pos 2 ∷ []) ++ rest)

-- the text is that of a proof in either version, over this root
abbrev pub EitherHasRoot : List ℕ → Placement → Type 0
EitherHasRoot text x =
    ((C : Claim) × IsProofText text C × (C.root ≡ x)) ⊎ ((C : PairClaim) × IsPairProofText text C × (C.root ≡ x))

-- the text is that of a proof in either version which establishes the verdict
abbrev pub EitherShows : Problem → List ℕ → Verdict → Type 0
EitherShows I text v = ShowsVerdict I text v ⊎ ShowsPairVerdict I text v

-- the verdict is true: the least cost; a cost that some permutation has, and a lower bound on all; or a lower bound
-- on the permutations that complete the root which the text names
abbrev pub EitherIsSo : Problem → List ℕ → Verdict → Type 0
EitherIsSo I text (Optimal c) = IsLeast I c
EitherIsSo I text (Gap g c) = ((p : List ℕ) × Permutes I p × (cost_of I p ≡ c)) × NoneCostsLess I g × (g <ℤ c)
EitherIsSo I text (Part g) = (x : Placement) × EitherHasRoot text x × NoneCompletesForLess I x g

-- a text of a proof with pair duals that establishes a verdict is refused only because memory ran out or the reader failed
abbrev pub RefusesNoPairs : Problem → List ℕ → ProofError → Type 0
RefusesNoPairs I text e = (v : Verdict) → ShowsPairVerdict I text v → IsInterruption e

-- of a text that states version 2, any fault that is none of such a proof; of another text the first fault, or that of the proof of
-- version 1 that it is
abbrev pub EitherIsRefused : Problem → List ℕ → ProofError → Type 0
EitherIsRefused I text e = RefusesNoPairs I text e × (StatesVersionTwo text ⊎ IsRefused I text e)
