-- What a proof that was walked along shows, or its first fault; and that what it shows is so.
use Rattle.std.proofs.Common.{◌≡◌, ◌∙◌, ℕ, List, [], ◌∷◌, length, ℤ, inl, inr, refl, sym, subst, arith}
use Rattle.std.specs.Prelude.{Option, Some, None, MatchOption}
use Rattle.std.proofs.lemmas.Option.{none-some}
use Rattle.qap_cost.specs.Instance.{Problem, IsInstance}
use Rattle.qap_cost.specs.Objective.{IsLeast, NoneCostsLess, cost_of}
use Rattle.qap_cost.specs.Placement.{Placement, Completes, root_of}
use Rattle.qap_cost.proofs.Nodes.{root_completed}
use Rattle.qap_proof.proofs.Validity.{Proves-NoneCompletesForLess, Proves-IsLeast}
use Rattle.qap_proof.specs.Acceptance.{ProvesFor, ShowsVerdict, IsVerdictOf, IsSo, HasFault}
use Rattle.qap_proof.specs.Claim.{Claim, claim_of, IsRoot, NoneCompletesForLess}
use Rattle.qap_proof.specs.Fault.{IsPermMisfit, IsTreeFault}
use Rattle.qap_proof.specs.Head.{HasHead}
use Rattle.qap_proof.specs.Tree.{Node, whole}
use Rattle.qap_proof.specs.Walk.{EndsBehindTree, IsToldOf}
use Rattle.qap_proof.specs.declared.acceptance.Verdict.{Verdict}
use Rattle.qap_proof.specs.declared.acceptance.Verdict.TheVariants.{Optimal, Gap, Part}
use Rattle.qap_proof.specs.declared.error.ProofError.{ProofError}

-- what is reported of the permutation: that it is of the instance's size and has the cost, or its misfit
abbrev pub IsToldOfPerm : Problem → List ℕ → ℤ → Option ProofError → Type 0
IsToldOfPerm I p c told = MatchOption told ((length p ≡ I.size) × (cost_of I p ≡ c)) (IsPermMisfit I p c)

-- where no fault was reported, the text is that of a proof of its root, its cost and its bound
pub ProvesFor-told : (I : Problem) (text : List ℕ) (x : Placement) (c g : ℤ) (p : List ℕ) (line : ℕ) (rest : List ℕ) (told : Option ProofError) → HasHead text x c g p line rest → IsToldOfPerm I p c told
    → EndsBehindTree x rest (IsToldOf I g (whole x) line told None) → ProvesFor I text x c g
ProvesFor-told I text x c g p line rest (Some d) head perm h = absurd (none-some d h.holds)
ProvesFor-told I text x c g p line rest None head perm h = record {
  proof = claim_of x c g p h.tree;
  is_text = head.whole h.tree h.shape h.is;
  proved = record { same_size = perm.0; cost = perm.1; tree = h.holds };
  root = refl;
  cost = refl;
  bound = refl;
}

-- a proof of a root, a cost and a bound shows the verdict of these
pub ShowsVerdict-proved : (I : Problem) (text : List ℕ) (x : Placement) (c g : ℤ) (verdict : Verdict) → ProvesFor I text x c g → ((p : List ℕ) (t : Node) → IsVerdictOf (claim_of x c g p t) verdict) → ShowsVerdict I text verdict
ShowsVerdict-proved I text x c g verdict h says =
    let C = h.proof in
    record {
      proof = C;
      is_text = h.is_text;
      proved = h.proved;
      says = subst (λ (y : Placement). IsVerdictOf (claim_of y C.cost C.bound C.permutation C.tree) verdict) (sym h.root)
          (subst (λ (z : ℤ). IsVerdictOf (claim_of x z C.bound C.permutation C.tree) verdict) (sym h.cost)
          (subst (λ (z : ℤ). IsVerdictOf (claim_of x c z C.permutation C.tree) verdict) (sym h.bound) (says C.permutation C.tree)));
    }

some_same : (d e : ProofError) → Some e ≡ Some d → d ≡ e
some_same d e same = subst (λ (o : Option ProofError). IsHeld o) same refl
  where
    IsHeld : Option ProofError → Type 0
    IsHeld None = Unit {0}
    IsHeld (Some f) = f ≡ e

-- where a fault was reported, it is the first fault of the proof that the text is
pub HasFault-told : (I : Problem) (text : List ℕ) (x : Placement) (c g : ℤ) (p : List ℕ) (line : ℕ) (rest : List ℕ) (told : Option ProofError) (e : ProofError) → HasHead text x c g p line rest → IsToldOfPerm I p c told
    → EndsBehindTree x rest (IsToldOf I g (whole x) line told (Some e)) → HasFault I text e
HasFault-told I text x c g p line rest (Some d) e head perm h = record {
  proof = claim_of x c g p h.tree;
  is_text = head.whole h.tree h.shape h.is;
  fault = inl (subst (IsPermMisfit I p c) (some_same d e h.holds) perm);
}
HasFault-told I text x c g p line rest None e head perm h = record {
  proof = claim_of x c g p h.tree;
  is_text = head.whole h.tree h.shape h.is;
  fault = inr (perm.0, perm.1, subst (λ (k : ℕ). IsTreeFault I g (whole x) k h.tree e) head.line_is h.holds);
}

-- a root without facilities is empty
empty_list : (xs : List ℕ) → length xs ≡ 0 → xs ≡ []
empty_list [] none = refl
empty_list (y ∷ xs) none = absurd (omega (arith, none))

abbrev placement_of : ℕ → List ℕ → List ℕ → Placement
placement_of n facilities places = record { size = n; facilities = facilities; places = places }

empty_root : (n : ℕ) (x : Placement) → IsRoot n x → length x.facilities ≡ 0 → x ≡ root_of n
empty_root n x root none =
    let facilities = empty_list x.facilities none in
    let places = empty_list x.places (root.placement.paired ∙ none) in
    λ i. placement_of (root.size i) (facilities i) (places i)

-- the verdict that a text shows is so
pub IsSo-shown : (I : Problem) (text : List ℕ) (verdict : Verdict) → IsInstance I → ShowsVerdict I text verdict → IsSo I text verdict
IsSo-shown I text verdict instance h = by verdict h.says
  where
    C : Claim
    C = h.proof

    least : NoneCompletesForLess I C.root C.bound
    least = Proves-NoneCompletesForLess I C instance h.is_text.proof h.proved

    empty : length C.root.facilities ≡ 0 → C.root ≡ root_of I.size
    empty none = subst (λ (n : ℕ). C.root ≡ root_of n) h.proved.same_size (empty_root (length C.permutation) C.root h.is_text.proof.root none)

    all : length C.root.facilities ≡ 0 → NoneCostsLess I C.bound
    all none p permutes = least p permutes (subst (λ (x : Placement). Completes x p) (sym (empty none)) (root_completed I.size p permutes.bijection permutes.same_size))

    by : (v : Verdict) → IsVerdictOf C v → IsSo I text v
    by (Optimal c) says = subst (IsLeast I) says.2 (Proves-IsLeast I C instance h.is_text.proof h.proved (empty says.0) says.1)
    by (Gap g c) says = (
      (C.permutation, record { bijection = h.is_text.proof.permutation.bijection; same_size = h.proved.same_size }, h.proved.cost ∙ says.2),
      subst (NoneCostsLess I) says.1 (all says.0),
      says.3,
    )
    by (Part g) says = (C, h.is_text, subst (NoneCompletesForLess I C.root) says.1 least)
