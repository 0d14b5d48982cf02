-- All lines of a proof with pair duals.
use Rattle.std.proofs.Common.{◌≡◌, ℕ, ◌<◌, ◌++◌, List, [], ◌∷◌, length, ℤ, refl, sym, ◌∙◌, ap, subst, inl, inr, arith, append_assoc, append-nil}
use Rattle.std.specs.Prelude.{codes, false, Option, None, Some, IfSome, Result, Ok, Err, IfErr, IfOk}
use Rattle.std.specs.Io.KnownBytes.{Appends}
use Rattle.std.proofs.KnownBytes.{Consumes-whole}
use Rattle.qap_cost.specs.Instance.{Problem}
use Rattle.qap_cost.specs.Objective.{cost_of}
use Rattle.qap_cost.specs.Placement.{Placement}
use Rattle.pair_duals.specs.CostStep.{step_of}
use Rattle.qap_proof.specs.declared.acceptance.Verdict.{Verdict}
use Rattle.qap_proof.proofs.OneText.{no_line-end}
use Rattle.qap_proof.specs.declared.leaf.Leaf.{Leaf}
use Rattle.proof_tree.proofs.Leaves.{HasLeaves-valid}
use Rattle.qap_proof.specs.declared.error.ProofError.{ProofError}
use Rattle.proof_tree.specs.Claim.{IsPairProofText, PairClaim, PairProves, pair_claim, pair_proof_text}
use Rattle.proof_tree.specs.Leaves.{HasLeaves}
use Rattle.proof_tree.specs.Shape.{HasShape}
use Rattle.proof_tree.specs.Text.{tree_text}
use Rattle.proof_tree.specs.Tree.{Tree}
use Rattle.proof_tree.specs.Valid.{Valid}
use Rattle.proof_check.specs.Acceptance.{CopiesLeaves, IsInterruption, IsPairVerdictOf, ReadsHead, ReadsLeaves, ReadsVerdict, RefusesNoProof, pair_head_text}
use Rattle.proof_check.specs.Completeness.{Any, BeginsTree, BeginsWithLine, EndsWith, HasHead, HasTree, IsCurrent, IsHeadOf}
use Rattle.proof_check.specs.Fault.{FaultKind, IsReadFault, RefusesPairs, content, grammar, interruption, kind_of}
use Rattle.proof_check.specs.Flow.{Flow, Passes}
use Rattle.proof_check.specs.Walk.{SkimsTree, WalksTree}
use Rattle.proof_check.specs.declared.acceptance.Checked.{Checked}
use Rattle.proof_check.proofs.Flows.{Passes-trans}

-- the cost step is positive
pub step-positive : (I : Problem) (step : ℕ) → step ≡ step_of I → 0 < step
step-positive I step is = omega (arith, is)

-- the text of a proof was read, which is all that the reader had if that is known, and copied
pub record ReadsProof (x : Placement) (cost bound : ℤ) (p : List ℕ) (t : Tree) (a e : Flow) : Type 0 where
  pub text : List ℕ
  pub whole : IfSome a.left (λ xs. xs ≡ text)
  pub copied : Appends a.copied e.copied text
  pub is_text : IsPairProofText text (pair_claim x cost bound p t)

-- a proof's head, its tree and its last line were read
pub ReadsProof-all : (x : Placement) (cost bound : ℤ) (p line : List ℕ) (a b c e : Flow) → ReadsHead x cost bound p line a b → (w : SkimsTree x false line b c) → EndsWith c e → ReadsProof x cost bound p w.tree a e
ReadsProof-all x cost bound p line a b c e head w end =
    let H = pair_head_text x cost bound p in
    let C = pair_claim x cost bound p w.tree in
    let E = codes "end\n" in
    let d = end.0 in
    let first = (H ++ line) ++ 10 ∷ [] in
    let all : Passes a d ((first ++ w.text) ++ E) = Passes-trans a c d (first ++ w.text) E (Passes-trans a b c first w.text head.consumed w.consumed) end.1 in
    let last : Passes a e (((first ++ w.text) ++ E) ++ []) = Passes-trans a d e ((first ++ w.text) ++ E) [] all end.3 in
    let tree_is : first ++ w.text ≡ H ++ tree_text w.tree = append_assoc (H ++ line) (10 ∷ []) w.text ∙ append_assoc H line (10 ∷ w.text) ∙ ap (λ l. H ++ l) w.is in
    let whole : (first ++ w.text) ++ E ≡ pair_proof_text C = ap (λ l. l ++ E) tree_is in
    record {
      text = pair_proof_text C;
      whole = Consumes-whole a.left d.left ((first ++ w.text) ++ E) (λ xs. xs ≡ pair_proof_text C) all.consumed end.2 whole;
      copied = subst (Appends a.copied e.copied) (append-nil ((first ++ w.text) ++ E) ∙ whole) last.appended;
      is_text = record {
        proof = record { cost = head.cost; bound = head.bound; permutation = head.permutation; root = head.root; tree = w.shape };
        is = refl;
      };
    }

-- likewise, and the tree is valid, with these leaves
pub CopiesLeaves-all : (I : Problem) (step : ℕ) (x : Placement) (cost bound limit : ℤ) (p line : List ℕ) (a b c e : Flow) (ls : List Leaf) → step ≡ step_of I → ReadsHead x cost bound p line a b → length p ≡ I.size → cost_of I p ≡ cost
    → WalksTree I step bound limit x None line b c [] ls → EndsWith c e → CopiesLeaves I a e x cost bound limit p ls
CopiesLeaves-all I step x cost bound limit p line a b c e ls step_is head size costs w end =
    let r = ReadsProof-all x cost bound p line a b c e head w.skimmed end in
    let t = w.skimmed.tree in
    let has : HasLeaves I (step_of I) bound limit x None t ls =
    subst (λ (k : ℕ). HasLeaves I k bound limit x None t ls) step_is (subst (HasLeaves I step bound limit x None t) (sym w.listed) w.valid) in
    record {
      text = r.text;
      whole = r.whole;
      copied = r.copied;
      tree = t;
      is_text = r.is_text;
      proved = record { same_size = size; cost = costs; tree = HasLeaves-valid t I (step_of I) bound limit x None ls has };
      leaves = has;
    }

-- what was copied was read
pub ReadsLeaves-copied : (I : Problem) (old new : Flow) (x : Placement) (c g limit : ℤ) (p : List ℕ) (ls : List Leaf) → CopiesLeaves I old new x c g limit p ls → ReadsLeaves I old.left x c g limit ls
ReadsLeaves-copied I old new x c g limit p ls h = record {
  text = h.text;
  whole = h.whole;
  shows = record { permutation = p; tree = h.tree; is_text = h.is_text; proved = h.proved; leaves = h.leaves };
}

-- likewise for what a call found, where it is known what the reader had
pub read_copied : (I : Problem) (old new : Flow) (known : Option (List ℕ)) (limit : Checked → ℤ) (r : Result Checked ProofError) → old.left ≡ known → IfOk r (λ c. CopiesLeaves I old new c.root c.cost c.bound (limit c) c.permutation c.leaves.items)
    → IfOk r (λ c. ReadsLeaves I known c.root c.cost c.bound (limit c) c.leaves.items)
read_copied I old new known limit (Ok c) is h = subst (λ (o : Option (List ℕ)). ReadsLeaves I o c.root c.cost c.bound (limit c) c.leaves.items) is (ReadsLeaves-copied I old new c.root c.cost c.bound (limit c) c.permutation c.leaves.items h)
read_copied I old new known limit (Err e) is h = tt

-- a proof whose leaves were read has its verdict
pub ReadsVerdict-leaves : (I : Problem) (old : Option (List ℕ)) (x : Placement) (c g limit : ℤ) (ls : List Leaf) (v : Verdict) → ReadsLeaves I old x c g limit ls → ((p : List ℕ) (t : Tree) → IsPairVerdictOf (pair_claim x c g p t) v)
    → ReadsVerdict I old v
ReadsVerdict-leaves I old x c g limit ls v h says = record {
  text = h.text;
  whole = h.whole;
  shows = record {
    proof = pair_claim x c g h.shows.permutation h.shows.tree;
    is_text = h.shows.is_text;
    proved = h.shows.proved;
    says = says h.shows.permutation h.shows.tree;
  };
}

-- ---- a text of a proof

-- it begins with the lines before a tree, and then the tree and the last line
pub HasHead-text : (C : PairClaim) (text : List ℕ) (old : Option (List ℕ)) → old ≡ Some text → IsPairProofText text C → HasHead C.root C.cost C.bound C.permutation C.tree old (codes "end\n")
HasHead-text C text old known is_text = record {
  cost = is_text.proof.cost;
  bound = is_text.proof.bound;
  permutation = is_text.proof.permutation;
  root = is_text.proof.root;
  tree = is_text.proof.tree;
  known = known ∙ ap Some is_text.is ∙ ap Some (append_assoc (pair_head_text C.root C.cost C.bound C.permutation) (tree_text C.tree) (codes "end\n"));
}

-- its tree has the shape of one under the root that was read
pub BeginsTree-text : (C : PairClaim) (text : List ℕ) (x : Placement) (cost bound : ℤ) (p line : List ℕ) (new : Option (List ℕ)) → IsPairProofText text C → IsHeadOf C.root C.cost C.bound C.permutation x cost bound p → IsCurrent line new (tree_text C.tree ++ codes "end\n") → BeginsTree x false Any line new (codes "end\n")
BeginsTree-text C text x cost bound p line new is_text head current = record { tree = C.tree; current = current; shape = subst (λ (y : Placement). HasShape y false C.tree) (sym head.root_is) is_text.proof.tree; holds = tt }

-- where the proof is valid, so is its tree for the bound that was read
pub HasTree-text : (I : Problem) (step : ℕ) (C : PairClaim) (text : List ℕ) (x : Placement) (cost bound : ℤ) (p line : List ℕ) (new : Option (List ℕ)) → step ≡ step_of I → IsPairProofText text C → PairProves I C → IsHeadOf C.root C.cost C.bound C.permutation x cost bound p
    → IsCurrent line new (tree_text C.tree ++ codes "end\n") → HasTree I step bound x None line new (codes "end\n")
HasTree-text I step C text x cost bound p line new step_is is_text proved head current =
    let root_is : C.root ≡ x = sym head.root_is in
    let bound_is : C.bound ≡ bound = sym head.bound_is in
    let valid = subst (λ (k : ℕ). Valid I k C.bound C.root None C.tree) (sym step_is) proved.tree in
    record {
      tree = C.tree;
      current = current;
      shape = subst (λ (y : Placement). HasShape y false C.tree) root_is is_text.proof.tree;
      holds = subst (λ (y : Placement). Valid I step bound y None C.tree) root_is (subst (λ (z : ℤ). Valid I step z C.root None C.tree) bound_is valid);
    }

-- and its permutation has the size and the cost
pub fits_text : (I : Problem) (C : PairClaim) (x : Placement) (cost bound : ℤ) (p : List ℕ) → PairProves I C → IsHeadOf C.root C.cost C.bound C.permutation x cost bound p → (length p ≡ I.size) × (cost_of I p ≡ cost)
fits_text I C x cost bound p proved head =
    (ap length head.perm_is ∙ proved.same_size, ap (cost_of I) head.perm_is ∙ proved.cost ∙ sym head.cost_is)

-- its last line
pub end_begins : (old : Option (List ℕ)) → old ≡ Some (codes "end\n") → BeginsWithLine old (codes "end") []
end_begins old known = record { text = codes "end\n"; known = known; first = record { is = refl; first = no_line-end } }

-- ---- refusals

abbrev IsGrammar : FaultKind → Type 0
IsGrammar grammar = Unit {0}
IsGrammar content = ⊥
IsGrammar interruption = ⊥

no_content : (e : ProofError) → kind_of e ≡ grammar → IsInterruption e → ⊥
no_content e kind (inl memory) = other (sym kind ∙ ap kind_of memory)
  where
    other : grammar ≡ interruption → ⊥
    other is = subst IsGrammar is tt
no_content e kind (inr device) = other (sym kind ∙ ap kind_of device)
  where
    other : grammar ≡ interruption → ⊥
    other is = subst IsGrammar is tt

-- a fault of grammar is found in no text of a proof
pub read_refused : (I : Problem) (old : Option (List ℕ)) (e : ProofError) → IsReadFault e → ((C : PairClaim) (text : List ℕ) → old ≡ Some text → IsPairProofText text C → IsInterruption e) → RefusesPairs I old e
read_refused I old e (inl kind) refuses = λ text known. inl (kind, λ proof. no_content e kind (refuses proof.0 text known proof.1))
read_refused I old e (inr stopped) refuses = λ text known. inr (inr stopped)

-- one of content is found where the text of a proof was read, in none of a valid one
pub content_refused : (I : Problem) (x : Placement) (cost bound : ℤ) (p : List ℕ) (t : Tree) (old new : Flow) (e : ProofError) → kind_of e ≡ content → ReadsProof x cost bound p t old new → ((C : PairClaim) (text : List ℕ) → old.left ≡ Some text → IsPairProofText text C → PairProves I C → ⊥) → RefusesPairs I old.left e
content_refused I x cost bound p t old new e kind read none = λ text known.
    let is : text ≡ read.text = subst (λ (o : Option (List ℕ)). IfSome o (λ xs. xs ≡ read.text)) known read.whole in
    inr (inl (kind, (pair_claim x cost bound p t, subst (λ (l : List ℕ). IsPairProofText l (pair_claim x cost bound p t)) (sym is) read.is_text), λ proved. none proved.0 text known proved.1 proved.2))

-- a refusal is none of a text of a proof that establishes a verdict
pub RefusesNoProof-pairs : (I : Problem) (old : Option (List ℕ)) (e : ProofError) → RefusesPairs I old e → RefusesNoProof I old e
RefusesNoProof-pairs I old e refuses text verdict known shows =
    elim (refuses text known) [
      | inl grammatical ↦ absurd (grammatical.1 (shows.proof, shows.is_text))
      | inr (inl found) ↦ absurd (found.2 (shows.proof, shows.is_text, shows.proved))
      | inr (inr stopped) ↦ stopped
    ]

-- so is that of a call
pub refused_pairs : {T : Type 0} (I : Problem) (old : Option (List ℕ)) (r : Result T ProofError) → IfErr r (RefusesPairs I old) → IfErr r (RefusesNoProof I old)
refused_pairs I old (Ok x) h = tt
refused_pairs I old (Err e) h = RefusesNoProof-pairs I old e h
