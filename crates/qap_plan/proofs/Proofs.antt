-- The proofs of answers, and their texts.
use Rattle.std.proofs.Common.{◌≡◌, ◌∙◌, ℕ, List, ℤ, ◌≤ℤ◌, None, Option, Some, arith, inl, inr, subst, sym}
use Rattle.std.specs.Prelude.{IfSome, ⊤}
use Rattle.std.proofs.lemmas.Int.{ints}
use Rattle.qap_cost.specs.Instance.{Problem}
use Rattle.qap_cost.specs.Placement.{Placement}
use Rattle.qap_proof.specs.Claim.{Claim}
use Rattle.proof_spool.specs.Writing.{ShowsProof}
use Rattle.plan_search.specs.Keeping.{IsKept, IsSearched, ProvesKept}
use Rattle.plan_search.specs.Planning.{IsPlanned, ProvesOver}
use Rattle.plan_search.specs.declared.planning.Planned.{Planned}
use Rattle.qap_plan.specs.Proofs.{ClaimsFor, HasSame, Is, IsLeftBy, MakesFor, ShowsFor, SpoolsFor, TellsProof}
use Rattle.qap_plan.specs.declared.output.proof_file.AnswerProof.{AnswerProof}
use Rattle.qap_plan.specs.declared.output.proof_file.AnswerProof.TheVariants.{Rows, Pairs, Lost}

-- the proof is, or is to be, one over such a root, with this permutation, its cost and this bound
abbrev ProvesFor : Problem → (Placement → Type 0) → List ℕ → ℤ → ℤ → AnswerProof → Type 0
ProvesFor I IsRoot p c g (Rows C) = ClaimsFor I IsRoot p c g C
ProvesFor I IsRoot p c g (Pairs s) = SpoolsFor I IsRoot p c g s
ProvesFor I IsRoot p c g (Lost e) = ⊤

-- its text shows what it proves
shows_of : (I : Problem) (IsRoot : Placement → Type 0) (p : List ℕ) (c g : ℤ) (a : AnswerProof) (text : List ℕ)
    → ProvesFor I IsRoot p c g a → TellsProof a text → ShowsFor I IsRoot p c g text
shows_of I IsRoot p c g (Rows C) text claims told = inl (record { proof = C; is_text = told; claims = claims })
shows_of I IsRoot p c g (Pairs s) text spools told = inr (record {
  root = s.root;
  is_root = spools.root;
  shows =
      subst (λ (J : Problem). ShowsProof J s.root p c g text) spools.instance
      (subst (λ (q : List ℕ). ShowsProof s.instance s.root q c g text) spools.permutation
      (subst (λ (z : ℤ). ShowsProof s.instance s.root s.permutation z g text) spools.cost
      (subst (λ (z : ℤ). ShowsProof s.instance s.root s.permutation s.cost z text) spools.bound told)));
})
shows_of I IsRoot p c g (Lost e) text h told = absurd told

claims_in : (I : Problem) (IsRoot : Placement → Type 0) (p : List ℕ) (c g : ℤ) (o : Option Claim) (C : Claim) → o ≡ Some C
    → IfSome o (ClaimsFor I IsRoot p c g) → ClaimsFor I IsRoot p c g C
claims_in I IsRoot p c g o C is claims = subst (λ (q : Option Claim). IfSome q (ClaimsFor I IsRoot p c g)) is claims

-- what a search has left proves what it has found
proves_of : (I : Problem) (IsRoot : Placement → Type 0) (root : Placement) (found x : Planned) (a : AnswerProof) → IsRoot root
    → x.permutation ≡ found.permutation → x.cost ≡ found.cost → IfSome found.proof (ClaimsFor I IsRoot found.permutation found.cost found.bound)
    → IsLeftBy I root found x a → ProvesFor I IsRoot x.permutation x.cost x.bound a
proves_of I IsRoot root found x (Rows C) is_root permutation cost claims left =
    let h = claims_in I IsRoot found.permutation found.cost found.bound found.proof C left.0 claims in
    record {
      shape = h.shape;
      proves = h.proves;
      root = h.root;
      permutation = h.permutation ∙ sym permutation;
      cost = h.cost ∙ sym cost;
      bound = h.bound ∙ sym left.1;
    }
proves_of I IsRoot root found x (Pairs s) is_root permutation cost claims left = record {
  instance = left.instance;
  root = subst IsRoot (sym left.root) is_root;
  permutation = left.permutation;
  cost = left.cost;
  bound = left.bound;
}
proves_of I IsRoot root found x (Lost e) is_root permutation cost claims left = tt

-- so its text shows that
pub makes_of : (I : Problem) (IsRoot : Placement → Type 0) (root : Placement) (found x : Planned) (a : AnswerProof) → IsRoot root
    → x.permutation ≡ found.permutation → x.cost ≡ found.cost → IfSome found.proof (ClaimsFor I IsRoot found.permutation found.cost found.bound)
    → IsLeftBy I root found x a → MakesFor I IsRoot x.permutation x.cost x.bound a
makes_of I IsRoot root found x a is_root permutation cost claims left = λ text told.
    shows_of I IsRoot x.permutation x.cost x.bound a text (proves_of I IsRoot root found x a is_root permutation cost claims left) told

-- the text of the proof that there is shows that
pub makes_in : (I : Problem) (IsRoot : Placement → Type 0) (p : List ℕ) (c g : ℤ) (o : Option AnswerProof) (a : AnswerProof) → o ≡ Some a
    → IfSome o (MakesFor I IsRoot p c g) → MakesFor I IsRoot p c g a
makes_in I IsRoot p c g o a is makes = subst (λ (q : Option AnswerProof). IfSome q (MakesFor I IsRoot p c g)) is makes

-- the proof of a search of what respects a node is over a root with the same completions
pub claims_kept : (I : Problem) (x : Placement) (p : List ℕ) (c g : ℤ) (o : Option Claim) → IfSome o (ProvesKept I x p c g) → IfSome o (ClaimsFor I (HasSame x) p c g)
claims_kept I x p c g None h = tt
claims_kept I x p c g (Some C) h = record { shape = h.shape; proves = h.proves; root = h.root; permutation = h.permutation; cost = h.cost; bound = h.bound }

-- that of a search below a root is over that root
pub claims_over : (I : Problem) (x : Placement) (p : List ℕ) (c g : ℤ) (o : Option Claim) → IfSome o (ProvesOver I x p c g) → IfSome o (ClaimsFor I (Is x) p c g)
claims_over I x p c g None h = tt
claims_over I x p c g (Some C) h = record { shape = h.shape; proves = h.proves; root = h.over; permutation = h.permutation; cost = h.cost; bound = h.bound }

-- a lower bound is one too
pub kept_below : (I : Problem) (x : Placement) (start : Option (List ℕ)) (found lower : Planned) → lower.permutation ≡ found.permutation → lower.cost ≡ found.cost
    → lower.bound ≤ℤ found.bound → IsKept I x start found.permutation found.cost found.bound → IsKept I x start lower.permutation lower.cost lower.bound
kept_below I x start found lower permutation cost less h =
    subst (λ (p : List ℕ). IsKept I x start p lower.cost lower.bound) (sym permutation)
    (subst (λ (c : ℤ). IsKept I x start found.permutation c lower.bound) (sym cost) (record {
      completes = h.completes;
      costs = h.costs;
      no_dearer = h.no_dearer;
      none_less = λ q completes. let most = h.none_less q completes in omega (arith, ints, less, most);
      at_most = let most = h.at_most in omega (arith, ints, less, most);
    }))

-- likewise among all permutations
pub planned_below : (I : Problem) (start : Option (List ℕ)) (found lower : Planned) → lower.permutation ≡ found.permutation → lower.cost ≡ found.cost
    → lower.bound ≤ℤ found.bound → IsPlanned I start found.permutation found.cost found.bound → IsPlanned I start lower.permutation lower.cost lower.bound
planned_below I start found lower permutation cost less h =
    subst (λ (p : List ℕ). IsPlanned I start p lower.cost lower.bound) (sym permutation)
    (subst (λ (c : ℤ). IsPlanned I start found.permutation c lower.bound) (sym cost) (record {
      permutes = h.permutes;
      costs = h.costs;
      no_dearer = h.no_dearer;
      none_less = λ q permutes. let most = h.none_less q permutes in omega (arith, ints, less, most);
      at_most = let most = h.at_most in omega (arith, ints, less, most);
    }))

-- likewise below a root
pub searched_below : (I : Problem) (x : Placement) (first : List ℕ) (found lower : Planned) → lower.permutation ≡ found.permutation → lower.cost ≡ found.cost
    → lower.bound ≤ℤ found.bound → IsSearched I x first found.permutation found.cost found.bound → IsSearched I x first lower.permutation lower.cost lower.bound
searched_below I x first found lower permutation cost less h =
    subst (λ (p : List ℕ). IsSearched I x first p lower.cost lower.bound) (sym permutation)
    (subst (λ (c : ℤ). IsSearched I x first found.permutation c lower.bound) (sym cost) (record {
      permutes = h.permutes;
      costs = h.costs;
      no_dearer = h.no_dearer;
      none_less = λ q completes. let most = h.none_less q completes in omega (arith, ints, less, most);
      at_most = let most = h.at_most in omega (arith, ints, less, most);
    }))

-- a text that shows what is found of the larger instance shows it of its permutation in this form
pub charged_text : (J : Problem) (IsRoot : Placement → Type 0) (whole last : Planned) (p text : List ℕ) → whole.permutation ≡ p → last.cost ≡ whole.cost → last.bound ≡ whole.bound
    → ShowsFor J IsRoot whole.permutation whole.cost whole.bound text → ShowsFor J IsRoot p last.cost last.bound text
charged_text J IsRoot whole last p text permutation cost bound shows =
    subst (λ (q : List ℕ). ShowsFor J IsRoot q last.cost last.bound text) permutation
    (subst (λ (z : ℤ). ShowsFor J IsRoot whole.permutation z last.bound text) (sym cost)
    (subst (λ (z : ℤ). ShowsFor J IsRoot whole.permutation whole.cost z text) (sym bound) shows))
