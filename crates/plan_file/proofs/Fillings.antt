-- Flows that are filled up, as a matrix.
use Rattle.std.proofs.Common.{◌≡◌, ℕ, ◌+◌, ◌*◌, ◌/◌, ◌%◌, ◌<◌, ◌≤◌, List, [], ◌∷◌, ◌++◌, length, length-append, inl, inr, subst, ℤ, pos, get_or, ap, ap₂, sym, ◌∙◌, arith}
use Rattle.std.proofs.lemmas.Nat.{div-mul-add, mod-mul-add, mul-add-lt}
use Rattle.std.proofs.lemmas.Bool.{cases_lt}
use Rattle.std.proofs.lemmas.List.{get_or_append_left, get_or_at}
use Rattle.qap_cost.specs.Instance.{Problem, IsInstance, entry}
use Rattle.qap_cost.specs.Range.{InRange}
use Rattle.plan_file.specs.Filling.{IsFilledUp}
use Rattle.plan_file.specs.Problem.{IsProblemOf, flow_of}

-- row i, column j of what is filled up
pub filled_entry : (departments : ℕ) (flows : List ℤ) (places : ℕ) (filled : List ℤ) (i j : ℕ) → IsFilledUp departments flows places (places * places) filled → i < places → j < places
    → entry places filled i j ≡ flow_of departments flows i j
filled_entry departments flows places filled i j filled_up row column =
    filled_up.flow (i * places + j) (mul-add-lt i places j places row column)
    ∙ ap₂ (flow_of departments flows) (div-mul-add i places j column) (mod-mul-add i places j column)

-- of the flows that are to be filled up, the first 0 are none
pub IsFilledUp-none : (departments : ℕ) (flows : List ℤ) (places : ℕ) (filled : List ℤ) → filled ≡ [] → IsFilledUp departments flows places 0 filled
IsFilledUp-none departments flows places filled none = record {
  many = ap (λ (l : List ℤ). length l) none;
  flow = λ k below. absurd (omega arith);
  in_range = λ k below. absurd (omega arith);
}

-- one number more
pub IsFilledUp-more : (departments : ℕ) (flows : List ℤ) (places count : ℕ) (filled newer : List ℤ) (z : ℤ) → IsFilledUp departments flows places count filled
    → z ≡ flow_of departments flows (count / places) (count % places) → InRange z → newer ≡ filled ++ z ∷ [] → IsFilledUp departments flows places (count + 1) newer
IsFilledUp-more departments flows places count filled newer z so_far is small pushed =
    let long : length newer ≡ count + 1 = omega (arith, ap (λ (l : List ℤ). length l) pushed, length-append filled (z ∷ []), so_far.many) in
    let before : (k : ℕ) → k < count → get_or newer k (pos 0) ≡ get_or filled k (pos 0) = λ k below. ap (λ l. get_or l k (pos 0)) pushed ∙ get_or_append_left filled (z ∷ []) (pos 0) k (omega (arith, so_far.many)) in
    let last : (k : ℕ) → count ≡ k → get_or newer k (pos 0) ≡ z = λ k same. ap (λ l. get_or l k (pos 0)) pushed ∙ get_or_at filled z [] (pos 0) k (omega (arith, so_far.many)) in
    record {
      many = long;
      flow = λ k below.
          elim (cases_lt k count) [
            | inl inside ↦ before k inside ∙ so_far.flow k inside
            | inr past ↦
                let here : count ≡ k = omega arith in
                last k here ∙ is ∙ ap (λ j. flow_of departments flows (j / places) (j % places)) here
          ];
      in_range = λ k below.
          elim (cases_lt k count) [
            | inl inside ↦ subst InRange (sym (before k inside)) (so_far.in_range k inside)
            | inr past ↦
                let here : count ≡ k = omega arith in
                subst InRange (sym (last k here)) small
          ];
    }

-- what is filled up, beside distances, is the instance of the two tables
made : (departments : ℕ) (flows : List ℤ) (places : ℕ) (filled lent distances : List ℤ) (I : Problem) → departments ≤ places → IsFilledUp departments flows places (places * places) filled
    → lent ≡ distances → I ≡ record { size = places; a = filled; b = lent } → IsInstance I → IsProblemOf departments flows places distances I
made departments flows places filled lent distances I room filled_up same is instance = record {
  room = room;
  instance = instance;
  size = ap (λ (P : Problem). P.size) is;
  flow = λ i j row column. ap (λ (P : Problem). entry places P.a i j) is ∙ filled_entry departments flows places filled i j filled_up row column;
  distance = ap (λ (P : Problem). P.b) is ∙ same;
}

-- the same, by lengths that were read and lists that were lent
pub problem_made : (m departments : ℕ) (lent_flows flows : List ℤ) (n places : ℕ) (filled lent distances : List ℤ) (I : Problem) → m ≡ departments → lent_flows ≡ flows → n ≡ places → lent ≡ distances
    → m ≤ n → IsFilledUp m lent_flows n (n * n) filled → I ≡ record { size = n; a = filled; b = lent } → IsInstance I → IsProblemOf departments flows places distances I
problem_made m departments lent_flows flows n places filled lent distances I same_m same_flows same_n same room filled_up is instance =
    subst (λ d. IsProblemOf d flows places distances I) same_m
    (subst (λ p. IsProblemOf m flows p distances I) same_n
    (made m flows n filled lent distances I room (subst (λ f. IsFilledUp m f n (n * n) filled) same_flows filled_up) same is instance))
