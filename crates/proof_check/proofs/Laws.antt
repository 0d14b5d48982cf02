-- What a verdict says is so.
use Rattle.std.proofs.Common.{◌≡◌, ℕ, List, [], length, ℤ, refl, sym, ◌∙◌, subst, arith}
use Rattle.std.specs.Prelude.{◌∷◌, ◌<ℤ◌, ◌≤ℤ◌}
use Rattle.qap_cost.specs.Instance.{Problem}
use Rattle.qap_cost.specs.Objective.{IsLeast, NoneCostsLess, Permutes, cost_of}
use Rattle.qap_cost.specs.Placement.{Placement, Completes, root_of}
use Rattle.qap_cost.proofs.Nodes.{root_completed}
use Rattle.pair_duals.specs.CostStep.{DividesCosts, step_of}
use Rattle.qap_proof.specs.Claim.{IsRoot, NoneCompletesForLess}
use Rattle.qap_proof.specs.declared.acceptance.Verdict.{Verdict}
use Rattle.qap_proof.specs.declared.acceptance.Verdict.TheVariants.{Gap, Optimal, Part}
use Rattle.proof_tree.proofs.Validity.{Proves-IsLeast, Proves-NoneCompletesForLess}
use Rattle.proof_check.specs.Acceptance.{ShowsPairVerdict}

nothing : (xs : List ℕ) → length xs ≡ 0 → xs ≡ []
nothing [] e = refl
nothing (x ∷ xs) e = absurd (omega (arith, e))

abbrev placed : ℕ → List ℕ → List ℕ → Placement
placed n facilities places = record { size = n; facilities = facilities; places = places }

empty_root : (n : ℕ) (x : Placement) → IsRoot n x → length x.facilities ≡ 0 → x ≡ root_of n
empty_root n x root none =
    let facilities = nothing x.facilities none in
    let places = nothing x.places (root.placement.paired ∙ none) in
    λ i. placed (root.size i) (facilities i) (places i)

whole : (I : Problem) (text : List ℕ) (v : Verdict) (h : ShowsPairVerdict I text v) → length h.proof.root.facilities ≡ 0 → h.proof.root ≡ root_of I.size
whole I text v h none = subst (λ (n : ℕ). h.proof.root ≡ root_of n) h.proved.same_size (empty_root (length h.proof.permutation) h.proof.root h.is_text.proof.root none)

-- where a text shows an optimum, that cost is the least
pub optimal : (I : Problem) (text : List ℕ) (c : ℤ) → DividesCosts I (step_of I) → ShowsPairVerdict I text (Optimal c) → IsLeast I c
optimal I text c divides h = subst (IsLeast I) h.says.2 (Proves-IsLeast I h.proof h.is_text.proof divides h.proved (whole I text (Optimal c) h h.says.0) h.says.1)

-- where a text shows a gap, a permutation has the cost, and none costs less than the bound
pub gap : (I : Problem) (text : List ℕ) (g c : ℤ) → DividesCosts I (step_of I) → ShowsPairVerdict I text (Gap g c) → ((p : List ℕ) × Permutes I p × (cost_of I p ≡ c)) × NoneCostsLess I g × (g <ℤ c)
gap I text g c divides h = (
  (h.proof.permutation, record { bijection = h.is_text.proof.permutation.bijection; same_size = h.proved.same_size }, h.proved.cost ∙ h.says.2),
  λ p permutes.
      let least = Proves-NoneCompletesForLess I h.proof h.is_text.proof divides h.proved in
      subst (λ (z : ℤ). z ≤ℤ cost_of I p) h.says.1
      (least p permutes (subst (λ (x : Placement). Completes x p) (sym (whole I text (Gap g c) h h.says.0)) (root_completed I.size p permutes.bijection permutes.same_size))),
  h.says.3,
)

-- where a text shows a bound for a part, no completion of its root costs less
pub part : (I : Problem) (text : List ℕ) (g : ℤ) → DividesCosts I (step_of I) → (h : ShowsPairVerdict I text (Part g)) → NoneCompletesForLess I h.proof.root g
part I text g divides h = subst (NoneCompletesForLess I h.proof.root) h.says.1 (Proves-NoneCompletesForLess I h.proof h.is_text.proof divides h.proved)
