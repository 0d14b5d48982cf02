-- The last item of which something holds, found from the end.
use Rattle.std.proofs.Common.{◌≡◌, ℕ, ◌+◌, ◌<◌, ◌≤◌, arith, inl, inr, subst, sym}
use Rattle.std.proofs.lemmas.Bool.{cases_lt}
use Rattle.plan_file.specs.Last.{IsUpToLast}

-- it holds of none of the last k items
abbrev pub HoldsOfNone : (ℕ → Type 0) → ℕ → ℕ → Type 0
HoldsOfNone Holds all k = (j : ℕ) → j < all → all ≤ j + k → Holds j → ⊥

-- nor of the one before them
pub HoldsOfNone-more : (Holds : ℕ → Type 0) (all k i : ℕ) → i + 1 + k ≡ all → HoldsOfNone Holds all k → (Holds i → ⊥) → HoldsOfNone Holds all (k + 1)
HoldsOfNone-more Holds all k i place none other = λ j inside past holds.
    elim (cases_lt i j) [
      | inl after ↦ none j inside (omega (arith, place)) holds
      | inr before ↦
          let here : j ≡ i = omega (arith, place) in
          other (subst Holds here holds)
    ]

-- the one before them is the last
pub IsUpToLast-found : (Holds : ℕ → Type 0) (all k i : ℕ) → i + 1 + k ≡ all → HoldsOfNone Holds all k → Holds i → IsUpToLast Holds all (i + 1)
IsUpToLast-found Holds all k i place none holds = record {
  within = omega (arith, place);
  last = λ j same. subst Holds (omega (arith, same)) holds;
  rest = λ j past inside. none j inside (omega (arith, place));
}

-- there is none
pub IsUpToLast-none : (Holds : ℕ → Type 0) (all : ℕ) → HoldsOfNone Holds all all → IsUpToLast Holds all 0
IsUpToLast-none Holds all none = record {
  within = omega arith;
  last = λ j same. absurd (omega (arith, same));
  rest = λ j past inside. none j inside (omega arith);
}
