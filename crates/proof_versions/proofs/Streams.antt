-- What a reader's bytes show as the text of a proof with pair duals.
use Rattle.std.proofs.Common.{◌≡◌, ◌<◌, ◌≤◌, length, length-append, take, arith, inl, inr, refl, sym, subst, ℕ, ℤ, List, [], ◌∷◌, ◌++◌, ◌∙◌, ap, append_assoc, pos}
use Rattle.std.specs.Prelude.{IfSome, None, Option, Some, codes}
use Rattle.std.specs.Io.KnownBytes.{Consumes, IsAtEnd, prepend_known}
use Rattle.std.proofs.Math.Seq.{take-append_seam}
use Rattle.std.proofs.lemmas.Bool.{cases_lt}
use Rattle.std.proofs.lemmas.List.{append-nil}
use Rattle.qap_cost.specs.Instance.{Problem}
use Rattle.qap_lines.specs.LineText.{line_text, numbers_text}
use Rattle.qap_proof.specs.Acceptance.{IsLimitedVerdict}
use Rattle.qap_proof.specs.declared.acceptance.Verdict.{Verdict}
use Rattle.qap_cost.specs.Placement.{Placement}
use Rattle.pair_duals.proofs.CostSteps.{step-divides}
use Rattle.qap_proof.specs.Cover.{CoverValue, IsCovering, cover_of}
use Rattle.qap_proof.specs.declared.leaf.Leaf.{Leaf}
use Rattle.proof_tree.proofs.Leaves.{IsCovering-leaves}
use Rattle.proof_tree.specs.Claim.{pair_claim}
use Rattle.proof_check.proofs.Accepting.{RefusesNoProof-pairs}
use Rattle.proof_check.specs.Acceptance.{ReadsLeaves, ReadsVerdict, ShowsPairVerdict}
use Rattle.proof_versions.specs.Opening.{PairsOpen}
use Rattle.proof_versions.specs.OverRoot.{PairProvesFor}
use Rattle.proof_versions.specs.Streams.{StreamOpens, StreamProves, StreamRefuses, StreamShows}
use Rattle.proof_versions.specs.Versions.{RefusesNoPairs, StatesVersionTwo}
use Rattle.proof_versions.proofs.Fronts.{behind_size, behind_version, pair_proof_parts, version_line}
use Rattle.qap_proof.specs.declared.error.ProofError.{ProofError}
use Rattle.proof_versions.proofs.Verdicts.{EitherIsSo-pairs, IsLimitedVerdict-pairs, states_version}

-- a text that begins with one that states version 2 states it
pub longer : (front rest : List ℕ) → StatesVersionTwo front → StatesVersionTwo (front ++ rest)
longer front rest h =
    (h.0 ++ rest, ap (λ (xs : List ℕ). xs ++ rest) h.1 ∙ append_assoc (line_text (codes "qapproof") (pos 2 ∷ [])) h.0 rest)

-- what has been read shows the verdict
pub StreamShows-read : (I : Problem) (known : Option (List ℕ)) (v : Verdict) → ReadsVerdict I known v → StreamShows I known v
StreamShows-read I known v h = record {
  text = h.text;
  whole = h.whole;
  version = states_version I h.text v h.shows;
  shows = h.shows;
  so = EitherIsSo-pairs I h.text v h.shows;
}

-- and its numbers are from -10^24 to 10^24
pub IsLimitedVerdict-read : (I : Problem) (known : Option (List ℕ)) (v : Verdict) → ReadsVerdict I known v → IsLimitedVerdict v
IsLimitedVerdict-read I known v h = IsLimitedVerdict-pairs I h.text v h.shows

-- the line that states version 2 alone is the text of no proof
no_proof : (I : Problem) (v : Verdict) → ShowsPairVerdict I (line_text (codes "qapproof") (pos 2 ∷ [])) v → ⊥
no_proof I v h =
    let whole = ap length (h.is_text.is ∙ pair_proof_parts h.proof) in
    let more = length-append (line_text (codes "qapproof") (pos 2 ∷ [])) (behind_version h.proof) in
    let some = length-append (codes "n" ++ numbers_text (pos (length h.proof.permutation) ∷ [])) (10 ∷ []) in
    let rest = length-append (line_text (codes "n") (pos (length h.proof.permutation) ∷ [])) (behind_size h.proof) in
    absurd (omega (arith, whole, more, some, rest))

-- all that a reader had, if its front states version 2, where what refused it refuses no proof
pub record Begun (I : Problem) (known : Option (List ℕ)) (e : ProofError) : Type 0 where
  pub text : List ℕ
  pub whole : IfSome known (λ xs. xs ≡ text)
  pub version : StatesVersionTwo text
  pub refuses : RefusesNoPairs I text e

pub begun : (I : Problem) (known rest : Option (List ℕ)) (front : List ℕ) (e : ProofError) → Consumes known rest front → StatesVersionTwo front → StreamRefuses I (prepend_known front rest) e → Begun I known e
begun I None rest front e consumed two refuses = record {
  text = line_text (codes "qapproof") (pos 2 ∷ []);
  whole = tt;
  version = ([], sym (append-nil (line_text (codes "qapproof") (pos 2 ∷ []))));
  refuses = λ v shows. absurd (no_proof I v shows);
}
begun I (Some xs) None front e consumed two refuses = absurd consumed
begun I (Some xs) (Some ys) front e consumed two refuses = record {
  text = xs;
  whole = refl;
  version = subst StatesVersionTwo (sym consumed) (longer front ys two);
  refuses = λ v shows. RefusesNoProof-pairs I (prepend_known front (Some ys)) e refuses xs v (ap Some (sym consumed)) shows;
}

-- the text of a checked proof proves what it states
pub PairProvesFor-read : (I : Problem) (known : Option (List ℕ)) (x : Placement) (c g limit : ℤ) (ls : List Leaf) → (h : ReadsLeaves I known x c g limit ls) → PairProvesFor I h.text x c g
PairProvesFor-read I known x c g limit ls h = record {
  proof = pair_claim x c g h.shows.permutation h.shows.tree;
  is_text = h.shows.is_text;
  proved = h.shows.proved;
  root = refl;
  cost = refl;
  bound = refl;
}

-- and where it is known, that text does
pub PairProvesFor-known : (I : Problem) (text : List ℕ) (x : Placement) (c g limit : ℤ) (ls : List Leaf) → ReadsLeaves I (Some text) x c g limit ls → PairProvesFor I text x c g
PairProvesFor-known I text x c g limit ls h = subst (λ (t : List ℕ). PairProvesFor I t x c g) (sym h.whole) (PairProvesFor-read I (Some text) x c g limit ls h)

version_read : (I : Problem) (known : Option (List ℕ)) (x : Placement) (c g limit : ℤ) (ls : List Leaf) → (h : ReadsLeaves I known x c g limit ls) → StatesVersionTwo h.text
version_read I known x c g limit ls h =
    let C = pair_claim x c g h.shows.permutation h.shows.tree in
    (behind_version C, h.shows.is_text.is ∙ pair_proof_parts C)

pub StreamProves-read : (I : Problem) (known : Option (List ℕ)) (x : Placement) (c g limit : ℤ) (ls : List Leaf) → ReadsLeaves I known x c g limit ls → StreamProves I known x c g
StreamProves-read I known x c g limit ls h = record {
  text = h.text;
  whole = h.whole;
  version = version_read I known x c g limit ls h;
  proves = PairProvesFor-read I known x c g limit ls h;
}

-- the leaves of a checked proof cover its root up to its cost
pub IsCovering-read : (I : Problem) (known : Option (List ℕ)) (x : Placement) (c g : ℤ) (ls : List Leaf) → ReadsLeaves I known x c g c ls → IsCovering (cover_of I x c ls)
IsCovering-read I known x c g ls h =
    IsCovering-leaves I (pair_claim x c g h.shows.permutation h.shows.tree) ls h.shows.is_text.proof (step-divides I) h.shows.proved h.shows.leaves

-- with which it is opened
pub StreamOpens-read : (I : Problem) (known : Option (List ℕ)) (x : Placement) (c g : ℤ) (ls : List Leaf) (v : CoverValue) → ReadsLeaves I known x c g c ls → v ≡ cover_of I x c ls → StreamOpens I known v
StreamOpens-read I known x c g ls v h is = record {
  text = h.text;
  whole = h.whole;
  version = version_read I known x c g c ls h;
  opened = subst (PairsOpen I h.text) (sym is) (record {
    proof = pair_claim x c g h.shows.permutation h.shows.tree;
    is_text = h.shows.is_text;
    proved = h.shows.proved;
    instance = refl;
    root = refl;
    cost = refl;
    leaves = h.shows.leaves;
  });
}

-- a text that states version 2 states it in its front
pub states_in_front : (rest : Option (List ℕ)) (front text : List ℕ) → Consumes (Some text) rest front → length front ≤ 11 → (length front < 11 → IsAtEnd rest) → StatesVersionTwo text → StatesVersionTwo front
states_in_front None front text consumed within at_end two = absurd consumed
states_in_front (Some ys) front text consumed within at_end two =
    elim (cases_lt (length front) 11) [
      | inl short ↦
          let none : ys ≡ [] = at_end short in
          absurd (omega (arith, ap length whole, ap length none, length-append front ys, length-append (codes "qapproof 2\n") two.0, short))
      | inr long ↦
          let eleven : length front ≡ length (codes "qapproof 2\n") = omega (arith, long, within) in
          let same : front ≡ codes "qapproof 2\n" = sym (take-append_seam front ys) ∙ ap (λ (n : ℕ). take n (front ++ ys)) eleven ∙ ap (take (length (codes "qapproof 2\n"))) whole ∙ take-append_seam (codes "qapproof 2\n") two.0 in
          ([], same ∙ sym version_line ∙ sym (append-nil (line_text (codes "qapproof") (pos 2 ∷ []))))
    ]
  where
    whole : front ++ ys ≡ codes "qapproof 2\n" ++ two.0
    whole = sym consumed ∙ two.1 ∙ ap (λ (l : List ℕ). l ++ two.0) version_line
