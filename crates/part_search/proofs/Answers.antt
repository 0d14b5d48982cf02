-- What the tuples that a search leaves say of its root.
use Rattle.std.proofs.Common.{◌≡◌, ℕ, ◌+◌, ◌<◌, inl, inr, false, List, length, get_or, ℤ, ◌≤ℤ◌, Option, Some, None, sym, ap, subst, ◌∙◌, arith}
use Rattle.std.specs.Prelude.{Contains, IfSome}
use Rattle.std.proofs.lemmas.Bool.{cases_lt, false≢true}
use Rattle.std.proofs.lemmas.Int.{ints}
use Rattle.qap_cost.specs.Instance.{Problem}
use Rattle.shared_space.specs.Law.{Content}
use Rattle.subtree_search.specs.Best.{Best, IsIncumbent}
use Rattle.tuple_match.specs.FieldValue.{FieldValue}
use Rattle.part_search.specs.Answer.{IsAnswer, IsAtMost, IsLesser, SurveysFirst}
use Rattle.part_search.specs.Law.{IsSearched, Part}
use Rattle.part_search.specs.Ran.{IsReadFrom}
use Rattle.part_search.specs.Tuples.{OpenNode, best_tuple, is_open, node_tuple}
use Rattle.part_search.specs.declared.answer.Survey.{Survey}
use Rattle.part_search.proofs.Bounds.{best_only, bound}
use Rattle.part_search.proofs.Lists.{any_default}

at_most : (least : Option ℤ) (g v : ℤ) → IfSome least (λ l. g ≤ℤ l) → IsAtMost least v → g ≤ℤ v
at_most None g v below h = absurd h
at_most (Some l) g v below h = omega (arith, ints, below, h)

pub answered : (n : ℕ) (S : Part) (I : Problem) (content tuples : Content) (s : Survey) (b : Best) (g : ℤ) → S.instance ≡ I → tuples ≡ content → IsSearched S content → SurveysFirst I tuples (length tuples) s → s.best ≡ Some b → g ≤ℤ b.cost → IfSome s.least (λ l. g ≤ℤ l) → (s.least ≡ None → g ≡ b.cost) → IsAnswer S (record { best = b; bound = g; nodes = n; open_nodes = s.open_nodes })
answered n S I content tuples s b g instance same h surveyed found below least none =
    let at : Contains tuples (best_tuple b) = subst (λ (o : Option Best). IfSome o (λ x. Contains tuples (best_tuple x))) found surveyed.best in
    let is : b ≡ h.best = best_only S content b h (subst (λ (c : Content). Contains c (best_tuple b)) same at) in
    let cost : b.cost ≡ h.best.cost = ap (λ (x : Best). x.cost) is in
    record {
      incumbent = subst (IsIncumbent S.instance) (sym is) h.incumbent;
      no_worse = let before = h.no_worse in omega (arith, ints, cost, before);
      bounded = bound S content g h (omega (arith, ints, below, cost)) (λ o there.
          let t = subst (λ (c : Content). Contains c (node_tuple o)) (sym same) there in
          at_most s.least g o.value least (surveyed.values t.0 (node_tuple o) t.1 o t.2));
      below = below;
      optimal = λ no_open. none (surveyed.none no_open);
    }

-- what is read from the tuples
pub read_from : (n : ℕ) (I : Problem) (content tuples : Content) (s : Survey) (b : Best) (g : ℤ) → tuples ≡ content → SurveysFirst I tuples (length tuples) s → s.best ≡ Some b → IfSome s.least (λ l. g ≤ℤ l) → IsReadFrom content (record { best = b; bound = g; nodes = n; open_nodes = s.open_nodes })
read_from n I content tuples s b g same surveyed found least =
    let at : Contains tuples (best_tuple b) = subst (λ (o : Option Best). IfSome o (λ x. Contains tuples (best_tuple x))) found surveyed.best in
    let value : (o : OpenNode) → Contains content (node_tuple o) → IsAtMost s.least o.value =
    λ o there.
    let t = subst (λ (c : Content). Contains c (node_tuple o)) (sym same) there in
    surveyed.values t.0 (node_tuple o) t.1 o t.2 in
    record {
      best = subst (λ (c : Content). Contains c (best_tuple b)) same at;
      below = λ o there. at_most s.least g o.value least (value o there);
      none_open = λ none o there. subst (λ (l : Option ℤ). IsAtMost l o.value) (surveyed.none none) (value o there);
    }

-- an open node more
pub survey_value : (I : Problem) (tuples : Content) (i : ℕ) (t : List FieldValue) (v : ℤ) (old new : Survey) → t ≡ get_or tuples i t → i < length tuples → ((o : OpenNode) → t ≡ node_tuple o → v ≡ o.value) → new.best ≡ old.best → IsLesser old.least v new.least → 0 < new.open_nodes → SurveysFirst I tuples i old → SurveysFirst I tuples (i + 1) new
survey_value I tuples i t v old new at inside value best least some h = record {
  values = λ k d below o is.
      elim (cases_lt k i) [
        | inl earlier ↦ least.no_more o.value (h.values k d earlier o is)
        | inr later ↦
            let place : i ≡ k = omega arith in
            let here : t ≡ node_tuple o = at ∙ any_default tuples i t d inside ∙ ap (λ (j : ℕ). get_or tuples j d) place ∙ is in
            subst (IsAtMost new.least) (value o here) least.at_most
      ];
  none = λ no_open. absurd (omega (arith, some, no_open));
  best = subst (λ (o : Option Best). IfSome o (λ b. Contains tuples (best_tuple b))) (sym best) h.best;
  incumbent = subst (λ (o : Option Best). IfSome o (IsIncumbent I)) (sym best) h.incumbent;
}

-- another tuple more
survey_other : (I : Problem) (tuples : Content) (i : ℕ) (t : List FieldValue) (s : Survey) → t ≡ get_or tuples i t → i < length tuples → is_open t ≡ false → SurveysFirst I tuples i s → (k : ℕ) (d : List FieldValue) → k < i + 1 → (o : OpenNode) → get_or tuples k d ≡ node_tuple o → IsAtMost s.least o.value
survey_other I tuples i t s at inside closed h k d below o is =
    elim (cases_lt k i) [
      | inl earlier ↦ h.values k d earlier o is
      | inr later ↦
          let place : i ≡ k = omega arith in
          let here : t ≡ node_tuple o = at ∙ any_default tuples i t d inside ∙ ap (λ (j : ℕ). get_or tuples j d) place ∙ is in
          absurd (false≢true (sym closed ∙ ap is_open here))
    ]

pub survey_none : (I : Problem) (tuples : Content) (i : ℕ) (t : List FieldValue) (old new : Survey) → t ≡ get_or tuples i t → i < length tuples → is_open t ≡ false → new ≡ old → SurveysFirst I tuples i old → SurveysFirst I tuples (i + 1) new
survey_none I tuples i t old new at inside closed is h =
    subst (SurveysFirst I tuples (i + 1)) (sym is) (record { values = survey_other I tuples i t old at inside closed h; none = h.none; best = h.best; incumbent = h.incumbent })

-- the best permutation
pub survey_best : (I : Problem) (tuples : Content) (i : ℕ) (t : List FieldValue) (b : Best) (old new : Survey) → t ≡ get_or tuples i t → i < length tuples → is_open t ≡ false → best_tuple b ≡ t → IsIncumbent I b → new ≡ record old { best = Some b } → SurveysFirst I tuples i old → SurveysFirst I tuples (i + 1) new
survey_best I tuples i t b old new at inside closed tuple incumbent is h =
    let made : Survey = record old { best = Some b } in
    let there : Contains tuples (best_tuple b) = (i, inside, any_default tuples i (best_tuple b) t inside ∙ sym at ∙ sym tuple) in
    let all : SurveysFirst I tuples (i + 1) made = record { values = survey_other I tuples i t old at inside closed h; none = h.none; best = there; incumbent = incumbent } in
    subst (SurveysFirst I tuples (i + 1)) (sym is) all
