-- A search that leaves what is fixed.
use Rattle.std.proofs.Common.{◌≡◌, ◌∙◌, ℕ, ◌+◌, List, [], ◌∷◌, ◌++◌, Bool, true, get_or, length, arith, inl, inr, refl, subst, sym}
use Rattle.std.specs.Prelude.{IsTrue}
use Rattle.std.proofs.lemmas.Bool.{cases_lt}
use Rattle.std.proofs.lemmas.List.{get_or_append_left, get_or_at}
use Rattle.qap_cost.specs.Instance.{Problem}
use Rattle.qap_cost.specs.Objective.{Permutes}
use Rattle.qap_cost.specs.Placement.{Completes, IsPlacement, Placement, StandsAt}
use Rattle.qap_improve.specs.Moving.{KeepsOthers}
use Rattle.plan_file.specs.Freeing.{IsFixedBelow}

-- one facility more
pub IsFixedBelow-more : (x : Placement) (n : ℕ) (free newer : List Bool) (moves : Bool) → newer ≡ free ++ moves ∷ [] → length free ≡ n → IsFixedBelow x n free → (IsTrue moves → (k : ℕ) → StandsAt x n k → ⊥)
    → IsFixedBelow x (n + 1) newer
IsFixedBelow-more x n free newer moves pushed long fixed last =
    subst (IsFixedBelow x (n + 1)) (sym pushed)
    (λ f k below stands may.
    elim (cases_lt f n) [
      | inl before ↦ fixed f k before stands (sym (get_or_append_left free (moves ∷ []) true f (omega (arith, before, long))) ∙ may)
      | inr past ↦
          let here : n ≡ f = omega (arith, below, past) in
          let is : moves ≡ true = sym (get_or_at free moves [] true f (long ∙ here)) ∙ may in
          last is k (subst (λ g. StandsAt x g k) (sym here) stands)
    ])

-- a permutation that leaves them completes what the start completes
pub completes_still : (I : Problem) (x : Placement) (may_move : List Bool) (start p : List ℕ) → IsPlacement x → x.size ≡ I.size → IsFixedBelow x x.size may_move → Completes x start → Permutes I p → KeepsOthers may_move start p
    → Completes x p
completes_still I x may_move start p placement size fixed completes permutes kept = record {
  bijection = permutes.bijection;
  same_size = permutes.same_size ∙ sym size;
  agrees = λ t inside.
      let f = get_or x.facilities t 0 in
      let below = placement.facilities.within t inside in
      let stands : StandsAt x f (get_or x.places t 0) = record { turn = t; placed = inside; facility = refl; location = refl } in
      kept f (omega (arith, below, completes.same_size)) (fixed f (get_or x.places t 0) below stands) ∙ completes.agrees t inside;
}
