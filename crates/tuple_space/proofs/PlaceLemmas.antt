-- Items in their places.
use Rattle.std.proofs.Common.{◌≡◌, ℕ, zero, suc, ◌+◌, ◌<◌, ◌≤◌, Bool, List, [], ◌∷◌, ◌++◌, length, drop, get_or, refl, sym, ap, subst, ◌∙◌, cond, Option, Some, None, arith}
use Rattle.std.proofs.Math.ListN.{set}
use Rattle.std.specs.Prelude.{All, Contains, IfSome, count_by, insert, map}
use Rattle.std.specs.List.{refill}
use Rattle.std.proofs.lemmas.List.{length-set, take_at}
use Rattle.std.proofs.lemmas.List.Elements.{All-cons, All-head, All-nil, All-tail, Contains-append_right}
use Rattle.std.proofs.lemmas.List.Sums.{sum_by-cons}
use Rattle.std.proofs.lemmas.Option.{none-some, same_Some}
use Rattle.tuple_space.specs.Places.{holds_one, items_in}

module _ {A : Type 0} where
  -- places that all hold an item
  pub items_in-map : (xs : List A) → items_in (map Some xs) ≡ xs
  items_in-map [] = refl
  items_in-map (x ∷ xs) = ap (λ l. x ∷ l) (items_in-map xs)

  -- places behind others
  pub items_in-append : (places more : List (Option A)) → items_in (places ++ more) ≡ items_in places ++ items_in more
  items_in-append [] more = refl
  items_in-append (Some x ∷ places) more = ap (λ l. x ∷ l) (items_in-append places more)
  items_in-append (None ∷ places) more = items_in-append places more

  -- one more item behind them
  pub items_in-push : (places : List (Option A)) (x : A) → items_in (places ++ Some x ∷ []) ≡ items_in places ++ x ∷ []
  items_in-push places x = items_in-append places (Some x ∷ [])

  pub places_push : (places : List (Option A)) (x : A) → places ≡ map Some (items_in places) → places ++ Some x ∷ [] ≡ map Some (items_in (places ++ Some x ∷ []))
  places_push places x each =
      ap (λ l. l ++ Some x ∷ []) each ∙ sym (map_push (items_in places) x) ∙ ap (map Some) (sym (items_in-push places x))
    where
      map_push : (xs : List A) (x : A) → map Some (xs ++ x ∷ []) ≡ map Some xs ++ Some x ∷ []
      map_push [] x = refl
      map_push (y ∷ ys) x = ap (λ l. Some y ∷ l) (map_push ys x)

  -- there are as many places as items
  pub length-places : (places : List (Option A)) → places ≡ map Some (items_in places) → length places ≡ length (items_in places)
  length-places places each = ap length each ∙ length-some (items_in places)
    where
      length-some : (xs : List A) → length (map Some xs) ≡ length xs
      length-some [] = refl
      length-some (x ∷ xs) = ap suc (length-some xs)

  -- no place in use is empty
  pub none_at : (places : List (Option A)) (place : ℕ) (o : Option A) → places ≡ map Some (items_in places) → place < length (items_in places) → o ≡ get_or places place o → o ≡ None → ⊥
  none_at places place o each within at none = by (items_in places) place within (sym none ∙ at ∙ ap (λ l. get_or l place o) each)
    where
      by : (xs : List A) (i : ℕ) → i < length xs → None ≡ get_or (map Some xs) i o → ⊥
      by [] i lt e = absurd (omega arith)
      by (x ∷ xs) zero lt e = none-some x e
      by (x ∷ xs) (suc i) lt e = by xs i (omega arith) e

  -- the item in a place
  pub some_at : (places : List (Option A)) (place : ℕ) (o : Option A) (x : A) → places ≡ map Some (items_in places) → place < length (items_in places) → o ≡ get_or places place o → o ≡ Some x
      → x ≡ get_or (items_in places) place x
  some_at places place o x each within at some = by (items_in places) place within (sym some ∙ at ∙ ap (λ l. get_or l place o) each)
    where
      by : (xs : List A) (i : ℕ) → i < length xs → Some x ≡ get_or (map Some xs) i o → x ≡ get_or xs i x
      by [] i lt e = absurd (omega arith)
      by (y ∷ ys) zero lt e = same_Some x y e
      by (y ∷ ys) (suc i) lt e = by ys i (omega arith) e

  -- another item in a place
  pub places_set : (places : List (Option A)) (place : ℕ) (x : A) → places ≡ map Some (items_in places) → set places place (Some x) ≡ map Some (set (items_in places) place x)
  places_set places place x each = ap (λ l. set l place (Some x)) each ∙ by (items_in places) place
    where
      by : (xs : List A) (i : ℕ) → set (map Some xs) i (Some x) ≡ map Some (set xs i x)
      by [] i = refl
      by (y ∷ ys) zero = refl
      by (y ∷ ys) (suc i) = ap (λ l. Some y ∷ l) (by ys i)

  -- places written as a slice
  pub places_refilled : (places : List (Option A)) (place : ℕ) (x : A) → refill (length places) places (set places place (Some x)) ≡ set places place (Some x)
  places_refilled places place x =
      let new = set places place (Some x) in
      take_at new (drop (length new) places) (length places) (length-set places place (Some x))

  -- an item put between others
  pub places_insert : (places : List (Option A)) (place : ℕ) (x : A) → places ≡ map Some (items_in places) → insert places place (Some x) ≡ map Some (insert (items_in places) place x)
  places_insert places place x each = ap (λ l. insert l place (Some x)) each ∙ by (items_in places) place
    where
      by : (xs : List A) (i : ℕ) → insert (map Some xs) i (Some x) ≡ map Some (insert xs i x)
      by [] zero = refl
      by [] (suc i) = refl
      by (y ∷ ys) zero = refl
      by (y ∷ ys) (suc i) = ap (λ l. Some y ∷ l) (by ys i)

  -- places that are given as items
  pub are_filled : (places : List (Option A)) (xs : List A) → places ≡ map Some xs → places ≡ map Some (items_in places)
  are_filled places xs is = is ∙ ap (map Some) (sym (ap items_in is ∙ items_in-map xs))

  pub items_are : (places : List (Option A)) (xs : List A) → places ≡ map Some xs → items_in places ≡ xs
  items_are places xs is = ap items_in is ∙ items_in-map xs

  -- what holds of the item in each place that has one holds of all
  pub all_in : (P : A → Type 0) (places : List (Option A)) → All (λ o. IfSome o P) places → All P (items_in places)
  all_in P [] h = All-nil P
  all_in P (o ∷ places) h = by o (All-head (λ (q : Option A). IfSome q P) o places h) (all_in P places (All-tail (λ (q : Option A). IfSome q P) o places h))
    where
      by : (q : Option A) → IfSome q P → All P (items_in places) → All P (items_in (q ∷ places))
      by None here rest = rest
      by (Some x) here rest = All-cons P x (items_in places) here rest

  -- the item in a place is one of them
  pub contains_in : (places : List (Option A)) (i : ℕ) (x : A) → i < length places → Some x ≡ get_or places i (Some x) → Contains (items_in places) x
  contains_in [] i x lt at = absurd (omega arith)
  contains_in (o ∷ places) zero x lt at = subst (λ (q : Option A). Contains (items_in (q ∷ places)) x) at (0, omega arith, refl)
  contains_in (o ∷ places) (suc i) x lt at =
      subst (λ (l : List A). Contains l x) (sym (items_in-append (o ∷ []) places)) (Contains-append_right (items_in (o ∷ [])) (items_in places) x (contains_in places i x (omega arith) at))

  -- as many places hold one that passes a test as items pass it
  pub counted_in : (test : A → Bool) (places : List (Option A)) → count_by (holds_one test) places ≡ count_by test (items_in places)
  counted_in test [] = refl
  counted_in test (o ∷ places) = sum_by-cons (λ (q : Option A). cond (holds_one test q) 1 0) o places ∙ by o (counted_in test places)
    where
      by : (q : Option A) → count_by (holds_one test) places ≡ count_by test (items_in places) → cond (holds_one test q) 1 0 + count_by (holds_one test) places ≡ count_by test (items_in (q ∷ places))
      by None rest = let same = rest in omega arith
      by (Some x) rest = ap (λ n. cond (test x) 1 0 + n) rest ∙ sym (sum_by-cons (λ (y : A). cond (test y) 1 0) x (items_in places))

  -- there are no more items than places
  pub few_in : (places : List (Option A)) → length (items_in places) ≤ length places
  few_in [] = omega arith
  few_in (None ∷ places) = let rest = few_in places in omega arith
  few_in (Some x ∷ places) = let rest = few_in places in omega arith
