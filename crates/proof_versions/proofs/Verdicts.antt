-- What a text of version 2 shows is so.
use Rattle.std.proofs.Common.{◌≡◌, ◌⊎◌, ◌∙◌, ℕ, List, ℤ, Err, Ok, Result, ap, inl, inr, refl, subst, sym}
use Rattle.std.specs.Prelude.{IfErr, IfOk, MatchOption, MatchResult, None, Option, Some}
use Rattle.qap_cost.specs.Instance.{Problem}
use Rattle.qap_cost.specs.Placement.{Placement}
use Rattle.qap_cost.specs.Range.{IsLimited}
use Rattle.pair_duals.proofs.CostSteps.{step-divides}
use Rattle.qap_proof.specs.Acceptance.{IsLimitedVerdict, IsRefused, IsSo, ProvesFor, ShowsVerdict}
use Rattle.qap_proof.specs.Cover.{CoverValue, Establishes, HasPart, IsAdmitted, IsOpened}
use Rattle.qap_proof.specs.OverRoot.{ProvesForAnother}
use Rattle.qap_proof.specs.declared.error.ProofError.{ProofError}
use Rattle.qap_proof.specs.declared.error.ProofError.TheVariants.{OutOfMemory}
use Rattle.qap_proof.specs.declared.over_root.Stated.{Stated}
use Rattle.qap_proof.specs.declared.acceptance.Verdict.{Verdict}
use Rattle.qap_proof.specs.declared.acceptance.Verdict.TheVariants.{Gap, Optimal, Part}
use Rattle.proof_check.proofs.Accepting.{RefusesNoProof-pairs}
use Rattle.proof_check.proofs.Laws.{gap, optimal, part}
use Rattle.proof_check.specs.Acceptance.{IsPairVerdictOf, ShowsPairVerdict}
use Rattle.proof_tree.proofs.Validity.{Proves-NoneCompletesForLess}
use Rattle.proof_tree.specs.Claim.{IsPairProof, PairClaim, PairProves}
use Rattle.qap_proof.specs.Claim.{NoneCompletesForLess}
use Rattle.proof_versions.specs.Adding.{HasEitherPart, HasPairPart}
use Rattle.proof_versions.specs.Opening.{EitherOpens, PairsOpen}
use Rattle.proof_versions.specs.OverRoot.{EitherProvesFor, EitherProvesForAnother, PairProvesFor}
use Rattle.proof_versions.specs.Streams.{StreamOpens, StreamRefuses}
use Rattle.proof_versions.specs.Versions.{EitherIsRefused, EitherIsSo, EitherShows, RefusesNoPairs, StatesVersionTwo}
use Rattle.proof_versions.proofs.Fronts.{behind_version, pair_proof_parts}

-- the text of a proof states version 2
pub states_version : (I : Problem) (text : List ℕ) (v : Verdict) → ShowsPairVerdict I text v → StatesVersionTwo text
states_version I text v h = (behind_version h.proof, h.is_text.is ∙ pair_proof_parts h.proof)

-- what keeps another text from being a proof of version 1 keeps it from being one
pub EitherIsRefused-first : (I : Problem) (text : List ℕ) (e : ProofError) → (StatesVersionTwo text → ⊥) → IsRefused I text e → EitherIsRefused I text e
EitherIsRefused-first I text e other refused = (λ v shows. absurd (other (states_version I text v shows)), inr refused)

-- what version 1 says is so is so
pub EitherIsSo-first : (I : Problem) (text : List ℕ) (v : Verdict) → IsSo I text v → EitherIsSo I text v
EitherIsSo-first I text (Optimal c) so = so
EitherIsSo-first I text (Gap g c) so = so
EitherIsSo-first I text (Part g) so = (so.0.root, inl (so.0, so.1, refl), so.2)

-- and what version 2 does
pub EitherIsSo-pairs : (I : Problem) (text : List ℕ) (v : Verdict) → ShowsPairVerdict I text v → EitherIsSo I text v
EitherIsSo-pairs I text (Optimal c) h = optimal I text c (step-divides I) h
EitherIsSo-pairs I text (Gap g c) h = gap I text g c (step-divides I) h
EitherIsSo-pairs I text (Part g) h = (h.proof.root, inr (h.proof, h.is_text, refl), part I text g (step-divides I) h)

limited_verdict : (C : PairClaim) (v : Verdict) → IsPairProof C → IsPairVerdictOf C v → IsLimitedVerdict v
limited_verdict C (Optimal c) proof says = subst IsLimited says.2 proof.cost
limited_verdict C (Gap g c) proof says = (subst IsLimited says.1 proof.bound.limited, subst IsLimited says.2 proof.cost)
limited_verdict C (Part g) proof says = subst IsLimited says.1 proof.bound.limited

-- its numbers are from -10^24 to 10^24
pub IsLimitedVerdict-pairs : (I : Problem) (text : List ℕ) (v : Verdict) → ShowsPairVerdict I text v → IsLimitedVerdict v
IsLimitedVerdict-pairs I text v h = limited_verdict h.proof v h.is_text.proof h.says

-- no permutation that completes the root of a proof of version 2 costs less than its bound
pub NoneCompletesForLess-pairs : (I : Problem) (text : List ℕ) (x : Placement) (c g : ℤ) → PairProvesFor I text x c g → NoneCompletesForLess I x g
NoneCompletesForLess-pairs I text x c g h =
    subst (λ y. NoneCompletesForLess I y g) h.root
    (subst (NoneCompletesForLess I h.proof.root) h.bound (Proves-NoneCompletesForLess I h.proof h.is_text.proof (step-divides I) h.proved))

-- what a proof of version 2 establishes
pub Establishes-pairs : (I : Problem) (text : List ℕ) (x : Placement) (c g : ℤ) → PairProvesFor I text x c g → Establishes I x c g
Establishes-pairs I text x c g h =
    let C = h.proof in
    let shape = h.is_text.proof in record {
      same_size = ap (λ (y : Placement). y.size) (sym h.root) ∙ shape.root.size ∙ h.proved.same_size;
      limited = subst IsLimited h.cost shape.cost;
      reached = (C.permutation, record { bijection = shape.permutation.bijection; same_size = h.proved.same_size }, h.proved.cost ∙ h.cost);
      bounded = NoneCompletesForLess-pairs I text x c g h;
    }

-- once that is admitted, the proof of the part has been added
pub HasPairPart-admitted : (I : Problem) (old new : CoverValue) (text : List ℕ) (x : Placement) (c g : ℤ) → I ≡ old.instance → PairProvesFor I text x c g → IsAdmitted x c g old new → HasPairPart text old new
HasPairPart-admitted I old new text x c g here h added = record {
  proof = h.proof;
  is_text = h.is_text;
  proved = subst (λ (J : Problem). PairProves J h.proof) here h.proved;
  admitted = subst (λ (y : Placement). IsAdmitted y h.proof.cost h.proof.bound old new) (sym h.root)
      (subst (λ (z : ℤ). IsAdmitted x z h.proof.bound old new) (sym h.cost) (subst (λ (z : ℤ). IsAdmitted x c z old new) (sym h.bound) added));
}

-- what version 1 shows over a root, either does
pub over_root-first : (I : Problem) (text : List ℕ) (x : Placement) (r : Result (Option Stated) ProofError) → (StatesVersionTwo text → ⊥)
    → MatchResult r (λ found. MatchOption found (ProvesForAnother I text x) (λ s. ProvesFor I text x s.cost s.bound)) (λ e. (e ≡ OutOfMemory) ⊎ IsRefused I text e)
    → MatchResult r (λ found. MatchOption found (EitherProvesForAnother I text x) (λ s. EitherProvesFor I text x s.cost s.bound)) (λ e. (e ≡ OutOfMemory) ⊎ EitherIsRefused I text e)
over_root-first I text x (Ok None) other h = record { other = h.other; cost = h.cost; bound = h.bound; proves = inl h.proves; differs = h.differs }
over_root-first I text x (Ok (Some s)) other h = inl h
over_root-first I text x (Err e) other (inl memory) = inl memory
over_root-first I text x (Err e) other (inr refused) = inr (EitherIsRefused-first I text e other refused)

-- what it shows of a whole
pub shows-first : (I : Problem) (text : List ℕ) (r : Result Verdict ProofError) → (StatesVersionTwo text → ⊥) → MatchResult r (ShowsVerdict I text) (λ e. (e ≡ OutOfMemory) ⊎ IsRefused I text e)
    → MatchResult r (EitherShows I text) (λ e. (e ≡ OutOfMemory) ⊎ EitherIsRefused I text e)
shows-first I text (Ok v) other h = inl h
shows-first I text (Err e) other (inl memory) = inl memory
shows-first I text (Err e) other (inr refused) = inr (EitherIsRefused-first I text e other refused)

-- what it adds
pub adds-first : {T : Type 0} (I : Problem) (text : List ℕ) (old new : CoverValue) (r : Result T ProofError) → (StatesVersionTwo text → ⊥) → MatchResult r (λ _. HasPart text old new) (λ e. ((e ≡ OutOfMemory) ⊎ IsRefused I text e) × (new ≡ old))
    → MatchResult r (λ _. HasEitherPart text old new) (λ e. ((e ≡ OutOfMemory) ⊎ EitherIsRefused I text e) × (new ≡ old))
adds-first I text old new (Ok x) other h = inl h
adds-first I text old new (Err e) other (inl memory, kept) = (inl memory, kept)
adds-first I text old new (Err e) other (inr refused, kept) = (inr (EitherIsRefused-first I text e other refused), kept)

-- what version 2 shows of a whole
pub shows-pairs : (I : Problem) (text : List ℕ) (r : Result Verdict ProofError) → StatesVersionTwo text → IfOk r (ShowsPairVerdict I text) → IfErr r (RefusesNoPairs I text) → MatchResult r (EitherShows I text) (λ e. (e ≡ OutOfMemory) ⊎ EitherIsRefused I text e)
shows-pairs I text (Ok v) two shows refused = inr shows
shows-pairs I text (Err e) two shows refused = inr (refused, inl two)

-- what version 1 opens, either does
pub opens-first : (I : Problem) (text : List ℕ) (r : Result CoverValue ProofError) → (StatesVersionTwo text → ⊥) → MatchResult r (IsOpened I text) (λ e. (e ≡ OutOfMemory) ⊎ IsRefused I text e)
    → MatchResult r (EitherOpens I text) (λ e. (e ≡ OutOfMemory) ⊎ EitherIsRefused I text e)
opens-first I text (Ok c) other h = inl h
opens-first I text (Err e) other (inl memory) = inl memory
opens-first I text (Err e) other (inr refused) = inr (EitherIsRefused-first I text e other refused)

-- and what version 2 does
pub opens-pairs : (I : Problem) (text : List ℕ) (r : Result CoverValue ProofError) → StatesVersionTwo text → IfOk r (StreamOpens I (Some text)) → IfErr r (StreamRefuses I (Some text))
    → MatchResult r (EitherOpens I text) (λ e. (e ≡ OutOfMemory) ⊎ EitherIsRefused I text e)
opens-pairs I text (Ok c) two opened refused = inr (subst (λ (t : List ℕ). PairsOpen I t c) (sym opened.whole) opened.opened)
opens-pairs I text (Err e) two opened refused = inr (λ v shows. RefusesNoProof-pairs I (Some text) e refused text v refl shows, inl two)
