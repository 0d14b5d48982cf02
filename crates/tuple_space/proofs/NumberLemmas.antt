-- Things under their numbers.
use Rattle.std.proofs.Common.{◌≡◌, ℕ, zero, suc, ◌≤◌, Bool, true, false, List, [], ◌∷◌, ◌++◌, length, get_or, refl, sym, ap, ◌∙◌, cond, eqb, ltb, slice_get, Option, Some, None, arith}
use Rattle.std.proofs.Math.ListN.{set}
use Rattle.std.specs.Prelude.{◌≢◌, All, IfNone, IfSome, filter, map, position, remove}
use Rattle.std.specs.List.{HoldsAt, position_or_len}
use Rattle.std.specs.Map.{keys_of, values_of}
use Rattle.std.proofs.lemmas.Bool.{cond-false, eq-eqb, eqb-true, false≢true, ltb-false, ne_eqb}
use Rattle.std.proofs.lemmas.List.{get_or-map, length-map}
use Rattle.std.proofs.lemmas.List.Elements.{All-head, All-tail}
use Rattle.std.proofs.lemmas.List.Quantifiers.{position-Some}
use Rattle.std.proofs.lemmas.List.Sums.{fails_before_first}
use Rattle.std.proofs.lemmas.Option.{none-some, same_Some}
use Rattle.indexmap.proofs.SetLemmas.{map-remove}
use Rattle.indexmap.specs.IndexMap.{insert_entry, set_value_at}
use Rattle.tuple_space.specs.Entries.{AreNumbered, numbered}

module _ {A : Type 0} where
  -- the same thing put where it stands
  pub set_same : (es : List A) (i : ℕ) (x : A) → slice_get es i ≡ Some x → set es i x ≡ es
  set_same [] i x at = refl
  set_same (y ∷ ys) zero x at = ap (λ z. z ∷ ys) (same_Some x y (sym at))
  set_same (y ∷ ys) (suc i) x at = ap (λ l. y ∷ l) (set_same ys i x at)

  -- the value of the pair at a place
  pub value_at : (ps : List (ℕ × A)) (es : List A) (i n : ℕ) (e : A) → values_of ps ≡ es → slice_get ps i ≡ Some (n, e) → e ≡ get_or es i e
  value_at ps es i n e same at = by ps i at ∙ ap (λ l. get_or l i e) same
    where
      by : (qs : List (ℕ × A)) (k : ℕ) → slice_get qs k ≡ Some (n, e) → e ≡ get_or (values_of qs) k e
      by [] k is = absurd (none-some (n, e) is)
      by (q ∷ qs) zero is = sym (ap (λ (p : ℕ × A). p.1) (same_Some q (n, e) is))
      by (q ∷ qs) (suc k) is = by qs k is

some_of : (b : Bool) (x : ℕ) → cond b (Some x) None ≡ None → b ≡ false
some_of true x e = absurd (none-some x (sym e))
some_of false x e = refl

-- no key passes where none is found
pub position_none : (test : ℕ → Bool) (ks : List ℕ) → position test ks ≡ None → All (λ k. test k ≡ false) ks
position_none test ks none = λ i d lt.
    let past : length ks ≤ position_or_len test ks = ltb-false _ _ (some_of (ltb (position_or_len test ks) (length ks)) _ none) in
    fails_before_first test ks i d (omega arith)

module _ {A : Type 0} (number : A → ℕ) where
  -- the things themselves, and their numbers
  values-numbered : (es : List A) → values_of (numbered number es) ≡ es
  values-numbered [] = refl
  values-numbered (x ∷ xs) = ap (λ l. x ∷ l) (values-numbered xs)

  pub keys-numbered : (es : List A) → keys_of (numbered number es) ≡ map number es
  keys-numbered [] = refl
  keys-numbered (x ∷ xs) = ap (λ l. number x ∷ l) (keys-numbered xs)

  -- pairs that are things under their numbers, and their values
  pub are_numbered : (ps : List (ℕ × A)) (es : List A) → ps ≡ numbered number es → AreNumbered number ps
  are_numbered ps es is = is ∙ ap (numbered number) (sym (ap values_of is ∙ values-numbered es))

  pub values_are : (ps : List (ℕ × A)) (es : List A) → ps ≡ numbered number es → values_of ps ≡ es
  values_are ps es is = ap values_of is ∙ values-numbered es

  pub numbered-push : (es : List A) (x : A) → numbered number es ++ (number x, x) ∷ [] ≡ numbered number (es ++ x ∷ [])
  numbered-push [] x = refl
  numbered-push (y ∷ ys) x = ap (λ l. (number y, y) ∷ l) (numbered-push ys x)

  pub numbered-remove : (es : List A) (i : ℕ) → remove (numbered number es) i ≡ numbered number (remove es i)
  numbered-remove es i = sym (map-remove (λ (e : A). (number e, e)) es i)

  pub numbered-set : (es : List A) (i : ℕ) (old new : A) → slice_get es i ≡ Some old → number new ≡ number old → set_value_at (numbered number es) i new ≡ numbered number (set es i new)
  numbered-set [] i old new at same = refl
  numbered-set (x ∷ xs) zero old new at same = ap (λ (n : ℕ). (n, new) ∷ numbered number xs) (sym (same ∙ ap number (same_Some old x (sym at))))
  numbered-set (x ∷ xs) (suc i) old new at same = ap (λ l. (number x, x) ∷ l) (numbered-set xs i old new at same)

  pub numbered-filter : (test : A → Bool) (es : List A) → filter (λ (p : ℕ × A). test p.1) (numbered number es) ≡ numbered number (filter test es)
  numbered-filter test [] = refl
  numbered-filter test (x ∷ xs) = by (test x) (numbered-filter test xs)
    where
      by : (b : Bool) → filter (λ (p : ℕ × A). test p.1) (numbered number xs) ≡ numbered number (filter test xs)
          → cond b ((number x, x) ∷ filter (λ (p : ℕ × A). test p.1) (numbered number xs)) (filter (λ (p : ℕ × A). test p.1) (numbered number xs)) ≡ numbered number (cond b (x ∷ filter test xs) (filter test xs))
      by true rest = ap (λ l. (number x, x) ∷ l) rest
      by false rest = rest

  -- pairs after a value is written
  module _ (ps : List (ℕ × A)) (i : ℕ) (old new : A) where
    pub numbered_write : AreNumbered number ps → slice_get (values_of ps) i ≡ Some old → number new ≡ number old → set_value_at ps i new ≡ numbered number (set (values_of ps) i new)
    numbered_write each at same = ap (λ l. set_value_at l i new) each ∙ numbered-set (values_of ps) i old new at same

    pub written_numbered : AreNumbered number ps → slice_get (values_of ps) i ≡ Some old → number new ≡ number old → AreNumbered number (set_value_at ps i new)
    written_numbered each at same = are_numbered (set_value_at ps i new) (set (values_of ps) i new) (numbered_write each at same)

    pub written_values : AreNumbered number ps → slice_get (values_of ps) i ≡ Some old → number new ≡ number old → values_of (set_value_at ps i new) ≡ set (values_of ps) i new
    written_values each at same = values_are (set_value_at ps i new) (set (values_of ps) i new) (numbered_write each at same)

  keys_are : (ps : List (ℕ × A)) → AreNumbered number ps → keys_of ps ≡ map number (values_of ps)
  keys_are ps each = ap keys_of each ∙ keys-numbered (values_of ps)

  -- where a number is looked for among the keys
  pub place_none : (sought : ℕ) (ps : List (ℕ × A)) (r : Option ℕ) → AreNumbered number ps → r ≡ position (λ k. eqb sought k) (keys_of ps) → IfNone r (All (λ (e : A). number e ≢ sought) (values_of ps))
  place_none sought ps (Some i) each is = tt
  place_none sought ps None each is = λ k d lt same.
      let es = values_of ps in
      let numbers = map number es in
      let long : length numbers ≡ length es = length-map es number in
      let fails = position_none (λ n. eqb sought n) numbers (ap (position (λ n. eqb sought n)) (sym (keys_are ps each)) ∙ sym is) k (number d) (omega arith) in
      let here : get_or numbers k (number d) ≡ number (get_or es k d) = get_or-map number es k d (number d) lt in
      false≢true (sym fails ∙ eq-eqb sought _ (sym (here ∙ same)))

  pub place_some : (sought : ℕ) (ps : List (ℕ × A)) (r : Option ℕ) → AreNumbered number ps → r ≡ position (λ k. eqb sought k) (keys_of ps) → IfSome r (HoldsAt (λ (e : A). number e ≡ sought) (values_of ps))
  place_some sought ps None each is = tt
  place_some sought ps (Some i) each is = λ d.
      let es = values_of ps in
      let numbers = map number es in
      let long : length numbers ≡ length es = length-map es number in
      let at = position-Some (λ n. eqb sought n) numbers i (number d) (ap (position (λ n. eqb sought n)) (sym (keys_are ps each)) ∙ sym is) in
      let within = at.0 in
      let here : get_or numbers i (number d) ≡ number (get_or es i d) = get_or-map number es i d (number d) (omega arith) in
      sym (eqb-true sought _ at.1 ∙ here)

  -- a thing of a new number goes last
  pub numbered_new : (ps : List (ℕ × A)) (x : A) → AreNumbered number ps → All (λ (e : A). number e ≢ number x) (values_of ps) → insert_entry eqb ps (number x) x ≡ numbered number (values_of ps ++ x ∷ [])
  numbered_new ps x each new = ap (λ l. insert_entry eqb l (number x) x) each ∙ by (values_of ps) new
    where
      by : (es : List A) → All (λ (e : A). number e ≢ number x) es → insert_entry eqb (numbered number es) (number x) x ≡ numbered number (es ++ x ∷ [])
      by [] h = refl
      by (y ∷ ys) h =
          let P : A → Type 0 = λ e. number e ≢ number x in
          cond-false (eqb (number x) (number y)) ((number y, x) ∷ numbered number ys) ((number y, y) ∷ insert_entry eqb (numbered number ys) (number x) x) (ne_eqb (number x) (number y) (λ same. All-head P y ys h (sym same)))
          ∙ ap (λ l. (number y, y) ∷ l) (by ys (All-tail P y ys h))
