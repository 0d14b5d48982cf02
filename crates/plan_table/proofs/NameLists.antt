-- Lists of names, one more at the end.
use Rattle.std.proofs.Common.{◌≡◌, ℕ, ◌+◌, ◌<◌, List, [], ◌∷◌, ◌++◌, length, map, take, Some, sym, ap, ◌∙◌, subst, inl, inr, arith, length-append}
use Rattle.std.proofs.lemmas.Bool.{cases_lt}
use Rattle.std.proofs.lemmas.List.{get_or_at, get_or_append_left, map-append}
use Rattle.csv.specs.Records.{field_at}
use Rattle.plan_table.proofs.Fields.{take_field}
use Rattle.plan_table.specs.Control.{HasNoControl}
use Rattle.plan_table.specs.Names.{AreDifferent, IsNew}

-- where there are no names, none is empty and none stands twice
pub AreDifferent-none : AreDifferent []
AreDifferent-none = record {
  some = λ k below. absurd (omega arith);
  visible = λ k below. absurd (omega arith);
  once = λ j k before below. absurd (omega arith);
}

-- different names and a new one are different
pub AreDifferent-more : (names : List (List ℕ)) (name : List ℕ) → AreDifferent names → IsNew names name → AreDifferent (names ++ name ∷ [])
AreDifferent-more names name different new =
    let long = length-append names (name ∷ []) in
    record {
      some = λ k below.
          elim (cases_lt k (length names)) [
            | inl before ↦ λ e. different.some k before (sym (get_or_append_left names (name ∷ []) [] k before) ∙ e)
            | inr past ↦
                let here : length names ≡ k = omega arith in
                λ e. new.some (sym (get_or_at names name [] [] k here) ∙ e)
          ];
      visible = λ k below.
          elim (cases_lt k (length names)) [
            | inl before ↦ subst HasNoControl (sym (get_or_append_left names (name ∷ []) [] k before)) (different.visible k before)
            | inr past ↦
                let here : length names ≡ k = omega arith in
                subst HasNoControl (sym (get_or_at names name [] [] k here)) new.visible
          ];
      once = λ j k before below.
          elim (cases_lt k (length names)) [
            | inl inside ↦
                let left = get_or_append_left names (name ∷ []) [] j (omega arith) in
                let right = get_or_append_left names (name ∷ []) [] k inside in
                λ e. different.once j k before inside (sym left ∙ e ∙ right)
            | inr past ↦
                let here : length names ≡ k = omega arith in
                let inside : j < length names = omega arith in
                let left = get_or_append_left names (name ∷ []) [] j inside in
                λ e. new.other (j, inside, sym left ∙ e ∙ get_or_at names name [] [] k here)
          ];
    }

-- one name more of those that texts are seen as, which stands in the next field
pub names_more : {A : Type 0} (f : A → List ℕ) (names newer : List A) (own : A) (name : List ℕ) (fields : List (List ℕ)) (i : ℕ) → newer ≡ names ++ own ∷ [] → f own ≡ name → AreDifferent (map f names)
    → IsNew (map f names) name → field_at fields i ≡ Some name → ((corner : List ℕ) × (take i fields ≡ corner ∷ map f names))
    → AreDifferent (map f newer) × ((corner : List ℕ) × (take (i + 1) fields ≡ corner ∷ map f newer))
names_more f names newer own name fields i pushed own_is different new next read =
    let is : map f newer ≡ map f names ++ name ∷ [] =
    ap (map f) pushed ∙ map-append f names (own ∷ []) ∙ ap (λ y. map f names ++ y ∷ []) own_is in
    let (corner, so_far) = read in (
      subst AreDifferent (sym is) (AreDifferent-more (map f names) name different new),
      (corner, take_field fields i name next ∙ ap (λ l. l ++ name ∷ []) so_far ∙ ap (λ l. corner ∷ l) (sym is)),
    )
