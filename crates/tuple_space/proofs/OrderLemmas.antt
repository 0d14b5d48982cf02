-- Entries in places of rising numbers, of which one is found, taken out or written.
use Rattle.std.proofs.Common.{◌≡◌, ℕ, zero, suc, ◌-◌, ◌<◌, Bool, true, false, List, [], ◌∷◌, ◌++◌, length, get_or, refl, sym, ap, subst, ◌∙◌, cond, eqb, slice_get, ⊎_elim, Option, Some, None, arith}
use Rattle.std.specs.Prelude.{◌≢◌, All, IfSome, Err, OnErr, OnOk, Ok, Result, filter, find, is_some, not, option_map, position}
use Rattle.std.specs.List.{HoldsAt}
use Rattle.std.specs.Map.{keys_of, lookup, values_of}
use Rattle.std.proofs.lemmas.Bool.{cases_lt, cond-false, cond-true, eq-eqb, eqb-true, false≢true, ne_eqb}
use Rattle.std.proofs.lemmas.List.{get_or-map, length-map}
use Rattle.std.proofs.lemmas.List.Elements.{All-cons, All-filter, All-head, All-nil, All-push, All-tail, filter_agree, filter_passes}
use Rattle.std.proofs.lemmas.List.Kept.{AllPairs-filter}
use Rattle.std.proofs.lemmas.List.Quantifiers.{all_pairs_push, position-Some}
use Rattle.std.proofs.lemmas.Option.{none-some, same_Some}
use Rattle.indexmap.specs.IndexMap.{insert_entry, set_value_at}
use Rattle.tuple_space.specs.Entries.{AreInPlaces}
use Rattle.tuple_space.specs.Places.{holds_one, items_in}
use Rattle.tuple_space.specs.Rows.{changed, without}
use Rattle.tuple_space.specs.declared.entry.Entry.{Entry}
use Rattle.tuple_space.proofs.NumberLemmas.{position_none}
use Rattle.tuple_space.proofs.PlaceLemmas.{items_in-push}
use Rattle.tuple_space.proofs.RowLemmas.{HasNone, any_none, by_head, by_tail, changed_none, find_none, none_head, passes_at, without_none}

abbrev Pairs : Type 0
Pairs = List (ℕ × Option Entry)

-- the entries in the places
abbrev pub entries_of : List (ℕ × Option Entry) → List Entry
entries_of ps = items_in (values_of ps)

-- what a place holds stands under its number
abbrev IsOwn : ℕ × Option Entry → Type 0
IsOwn p = IfSome p.1 (λ e. e.number ≡ p.0)

tail_in : (p : ℕ × Option Entry) (ps : Pairs) → AreInPlaces (p ∷ ps) → AreInPlaces ps
tail_in p ps h = record {
  own = All-tail IsOwn p ps h.own;
  rising = λ i j d below within. h.rising (suc i) (suc j) d (omega arith) (omega arith);
}

-- a number that no place has
pub none_in : (number : ℕ) (ps : List (ℕ × Option Entry)) → All (λ p. IfSome p.1 (λ e. e.number ≡ p.0)) ps → All (λ p. p.0 ≢ number) ps → HasNone number (entries_of ps)
none_in number [] own other = All-nil (λ (e : Entry). e.number ≢ number)
none_in number (p ∷ ps) own other =
    by p.1 (All-head IsOwn p ps own) (none_in number ps (All-tail IsOwn p ps own) (All-tail (λ (q : ℕ × Option Entry). q.0 ≢ number) p ps other))
  where
    by : (o : Option Entry) → IfSome o (λ e. e.number ≡ p.0) → HasNone number (entries_of ps) → HasNone number (items_in (o ∷ values_of ps))
    by None here rest = rest
    by (Some e) here rest = All-cons (λ (x : Entry). x.number ≢ number) e (entries_of ps) (λ same. All-head (λ (q : ℕ × Option Entry). q.0 ≢ number) p ps other (sym here ∙ same)) rest

-- the place of a number and what it holds; no entry before it or behind it has the number
abbrev pub IsAt : ℕ → List (ℕ × Option Entry) → ℕ → Option Entry → Type 0
IsAt number [] i o = ⊥
IsAt number (p ∷ ps) zero o = (p.0 ≡ number) × (p.1 ≡ o) × IfSome o (λ e. e.number ≡ number) × HasNone number (entries_of ps)
IsAt number (p ∷ ps) (suc i) o = HasNone number (items_in (p.1 ∷ [])) × IsAt number ps i o

is_at : (number : ℕ) (ps : Pairs) (i : ℕ) (o : Option Entry) → AreInPlaces ps → i < length ps → HoldsAt (λ p. p.0 ≡ number) ps i → slice_get (values_of ps) i ≡ Some o → IsAt number ps i o
is_at number [] i o h lt key at = absurd (omega arith)
is_at number (p ∷ ps) zero o h lt key at =
    let same = same_Some p.1 o at in (
      key p,
      same,
      subst (λ (q : Option Entry). IfSome q (λ e. e.number ≡ number)) same (subst (λ n. IfSome p.1 (λ e. e.number ≡ n)) (key p) (All-head IsOwn p ps h.own)),
      none_in number ps (All-tail IsOwn p ps h.own) (λ k d lt is. let less = h.rising 0 (suc k) d (omega arith) (omega arith) in let here = key p in omega arith),
    )
is_at number (p ∷ ps) (suc i) o h lt key at = (
  none_in number (p ∷ []) (All-cons IsOwn p [] (All-head IsOwn p ps h.own) (All-nil IsOwn))
      (All-cons (λ (q : ℕ × Option Entry). q.0 ≢ number) p [] (λ is. let less = h.rising 0 (suc i) p (omega arith) lt in let here = key p in omega arith) (All-nil (λ (q : ℕ × Option Entry). q.0 ≢ number))),
  is_at number ps i o (tail_in p ps h) (omega arith) (λ d. key d) at,
)

module _ (number : ℕ) where
  -- it is found
  find_at : (ps : Pairs) (i : ℕ) (o : Option Entry) → IsAt number ps i o → o ≡ find (λ (e : Entry). eqb e.number number) (entries_of ps)
  find_at [] i o h = absurd h
  find_at (p ∷ ps) zero o h = subst (λ (q : Option Entry). o ≡ find (λ (e : Entry). eqb e.number number) (items_in (q ∷ values_of ps))) (sym h.1) (by o h.2)
    where
      by : (q : Option Entry) → IfSome q (λ e. e.number ≡ number) → q ≡ find (λ (e : Entry). eqb e.number number) (items_in (q ∷ values_of ps))
      by None own = find_none number (entries_of ps) h.3
      by (Some e) own = sym (cond-true (eqb e.number number) (Some e) (find (λ (x : Entry). eqb x.number number) (entries_of ps)) (eq-eqb e.number number own))
  find_at (p ∷ ps) (suc i) o h = find_at ps i o h.1 ∙ by p.1 h.0
    where
      by : (q : Option Entry) → HasNone number (items_in (q ∷ [])) → find (λ (e : Entry). eqb e.number number) (entries_of ps) ≡ find (λ (e : Entry). eqb e.number number) (items_in (q ∷ values_of ps))
      by None none = refl
      by (Some e) none = sym (cond-false (eqb e.number number) (Some e) (find (λ (x : Entry). eqb x.number number) (entries_of ps)) (none_head number e [] none))

  -- an empty place holds no entry of the number, and none stands elsewhere
  none_at : (ps : Pairs) (i : ℕ) → IsAt number ps i None → HasNone number (entries_of ps)
  none_at [] i h = absurd h
  none_at (p ∷ ps) zero h = subst (λ (q : Option Entry). HasNone number (items_in (q ∷ values_of ps))) (sym h.1) h.3
  none_at (p ∷ ps) (suc i) h = by p.1 h.0 (none_at ps i h.1)
    where
      by : (q : Option Entry) → HasNone number (items_in (q ∷ [])) → HasNone number (entries_of ps) → HasNone number (items_in (q ∷ values_of ps))
      by None none rest = rest
      by (Some e) none rest = All-cons (λ (x : Entry). x.number ≢ number) e (entries_of ps) (All-head (λ (x : Entry). x.number ≢ number) e [] none) rest

  -- it is taken out
  without_at : (ps : Pairs) (i : ℕ) (o : Option Entry) → IsAt number ps i o → entries_of (set_value_at ps i None) ≡ without number (entries_of ps)
  without_at [] i o h = absurd h
  without_at (p ∷ ps) zero o h = sym (subst (λ (q : Option Entry). without number (items_in (q ∷ values_of ps)) ≡ entries_of ps) (sym h.1) (by o h.2))
    where
      by : (q : Option Entry) → IfSome q (λ e. e.number ≡ number) → without number (items_in (q ∷ values_of ps)) ≡ entries_of ps
      by None own = without_none number (entries_of ps) h.3
      by (Some e) own = cond-false (not (eqb e.number number)) (e ∷ without number (entries_of ps)) (without number (entries_of ps)) (ap not (eq-eqb e.number number own)) ∙ without_none number (entries_of ps) h.3
  without_at (p ∷ ps) (suc i) o h = by p.1 h.0 (without_at ps i o h.1)
    where
      by : (q : Option Entry) → HasNone number (items_in (q ∷ [])) → entries_of (set_value_at ps i None) ≡ without number (entries_of ps)
          → items_in (q ∷ values_of (set_value_at ps i None)) ≡ without number (items_in (q ∷ values_of ps))
      by None none rest = rest
      by (Some e) none rest =
          ap (λ l. e ∷ l) rest
          ∙ sym (cond-true (not (eqb e.number number)) (e ∷ without number (entries_of ps)) (without number (entries_of ps)) (ap not (none_head number e [] none)))

  -- it is changed
  changed_at : (change : Entry → Entry) (ps : Pairs) (i : ℕ) (old : Option Entry) → IsAt number ps i old → entries_of (set_value_at ps i (option_map change old)) ≡ changed number change (entries_of ps)
  changed_at change [] i old h = absurd h
  changed_at change (p ∷ ps) zero old h = sym (ap (λ (q : Option Entry). changed number change (items_in (q ∷ values_of ps))) h.1 ∙ by old h.2)
    where
      by : (q : Option Entry) → IfSome q (λ e. e.number ≡ number) → changed number change (items_in (q ∷ values_of ps)) ≡ items_in (option_map change q ∷ values_of ps)
      by None own = changed_none number change (entries_of ps) h.3
      by (Some e) own =
          ap (λ z. z ∷ changed number change (entries_of ps)) (cond-true (eqb e.number number) (change e) e (eq-eqb e.number number own))
          ∙ ap (λ l. change e ∷ l) (changed_none number change (entries_of ps) h.3)
  changed_at change (p ∷ ps) (suc i) old h = by p.1 h.0 (changed_at change ps i old h.1)
    where
      by : (q : Option Entry) → HasNone number (items_in (q ∷ [])) → entries_of (set_value_at ps i (option_map change old)) ≡ changed number change (entries_of ps)
          → items_in (q ∷ values_of (set_value_at ps i (option_map change old))) ≡ changed number change (items_in (q ∷ values_of ps))
      by None none rest = rest
      by (Some e) none rest =
          ap (λ l. e ∷ l) rest
          ∙ sym (ap (λ z. z ∷ changed number change (entries_of ps)) (cond-false (eqb e.number number) (change e) e (none_head number e [] none)))

  -- it passes a test
  passes_there : (test : Entry → Bool) (ps : Pairs) (i : ℕ) (o : Option Entry) → IsAt number ps i o → passes_at number test (entries_of ps) ≡ holds_one test o
  passes_there test [] i o h = absurd h
  passes_there test (p ∷ ps) zero o h = ap (λ (q : Option Entry). passes_at number test (items_in (q ∷ values_of ps))) h.1 ∙ by o h.2
    where
      by : (q : Option Entry) → IfSome q (λ e. e.number ≡ number) → passes_at number test (items_in (q ∷ values_of ps)) ≡ holds_one test q
      by None own = any_none number test (entries_of ps) h.3
      by (Some e) own = by_head (eqb e.number number) (test e) (passes_at number test (entries_of ps)) (eq-eqb e.number number own) (any_none number test (entries_of ps) h.3)
  passes_there test (p ∷ ps) (suc i) o h = by p.1 h.0 (passes_there test ps i o h.1)
    where
      by : (q : Option Entry) → HasNone number (items_in (q ∷ [])) → passes_at number test (entries_of ps) ≡ holds_one test o → passes_at number test (items_in (q ∷ values_of ps)) ≡ holds_one test o
      by None none rest = rest
      by (Some e) none rest = by_tail (eqb e.number number) (test e) (passes_at number test (entries_of ps)) (none_head number e [] none) ∙ rest

-- a place of another number holds no entry of this one
find_other : (number : ℕ) (p : ℕ × Option Entry) (ps : Pairs) → IsOwn p → eqb number p.0 ≡ false → find (λ (e : Entry). eqb e.number number) (entries_of ps) ≡ find (λ (e : Entry). eqb e.number number) (entries_of (p ∷ ps))
find_other number p ps own other = by p.1 own
  where
    by : (o : Option Entry) → IfSome o (λ e. e.number ≡ p.0) → find (λ (e : Entry). eqb e.number number) (entries_of ps) ≡ find (λ (e : Entry). eqb e.number number) (items_in (o ∷ values_of ps))
    by None is = refl
    by (Some e) is = sym (cond-false (eqb e.number number) (Some e) (find (λ (x : Entry). eqb x.number number) (entries_of ps)) (ne_eqb e.number number (λ same. false≢true (sym other ∙ eq-eqb number p.0 (sym same ∙ is)))))

-- places of which one is written
length_set : (ps : Pairs) (i : ℕ) (o : Option Entry) → length (set_value_at ps i o) ≡ length ps
length_set [] i o = refl
length_set (p ∷ ps) zero o = refl
length_set (p ∷ ps) (suc i) o = ap suc (length_set ps i o)

number_set : (ps : Pairs) (i j : ℕ) (o : Option Entry) (d : ℕ × Option Entry) → (get_or (set_value_at ps i o) j d).0 ≡ (get_or ps j d).0
number_set [] i j o d = refl
number_set (p ∷ ps) zero zero o d = refl
number_set (p ∷ ps) zero (suc j) o d = refl
number_set (p ∷ ps) (suc i) zero o d = refl
number_set (p ∷ ps) (suc i) (suc j) o d = number_set ps i j o d

own_set : (number : ℕ) (ps : Pairs) (i : ℕ) (o : Option Entry) → All IsOwn ps → i < length ps → HoldsAt (λ p. p.0 ≡ number) ps i → IfSome o (λ e. e.number ≡ number) → All IsOwn (set_value_at ps i o)
own_set number [] i o own lt key here = own
own_set number (p ∷ ps) zero o own lt key here = All-cons IsOwn (p.0, o) ps (subst (λ n. IfSome o (λ e. e.number ≡ n)) (sym (key p)) here) (All-tail IsOwn p ps own)
own_set number (p ∷ ps) (suc i) o own lt key here = All-cons IsOwn p (set_value_at ps i o) (All-head IsOwn p ps own) (own_set number ps i o (All-tail IsOwn p ps own) (omega arith) (λ d. key d) here)

set_again : (ps : Pairs) (i : ℕ) (o : Option Entry) → slice_get (values_of ps) i ≡ Some o → set_value_at ps i o ≡ ps
set_again [] i o at = refl
set_again (p ∷ ps) zero o at = ap (λ (q : Option Entry). (p.0, q) ∷ ps) (sym (same_Some p.1 o at))
set_again (p ∷ ps) (suc i) o at = ap (λ (l : Pairs). p ∷ l) (set_again ps i o at)

own_at : (number : ℕ) (ps : Pairs) (i : ℕ) (o : Option Entry) → IsAt number ps i o → IfSome o (λ e. e.number ≡ number)
own_at number [] i o at = absurd at
own_at number (p ∷ ps) zero o at = at.2
own_at number (p ∷ ps) (suc i) o at = own_at number ps i o at.1

changed_own : (number : ℕ) (change : Entry → Entry) → ((e : Entry) → (change e).number ≡ e.number) → (o : Option Entry) → IfSome o (λ e. e.number ≡ number) → IfSome (option_map change o) (λ e. e.number ≡ number)
changed_own number change keeps None own = tt
changed_own number change keeps (Some e) own = keeps e ∙ own

-- where a look by number finds none
pub not_found : (number : ℕ) (ps : List (ℕ × Option Entry)) → AreInPlaces ps → lookup (λ k. eqb number k) ps ≡ None → None ≡ find (λ e. eqb e.number number) (entries_of ps)
not_found number [] h none = refl
not_found number (p ∷ ps) h none = by (eqb number p.0) refl none (not_found number ps (tail_in p ps h))
  where
    by : (b : Bool) → eqb number p.0 ≡ b → cond b (Some p.1) (lookup (λ (k : ℕ). eqb number k) ps) ≡ None → (lookup (λ (k : ℕ). eqb number k) ps ≡ None → None ≡ find (λ (e : Entry). eqb e.number number) (entries_of ps))
        → None ≡ find (λ (e : Entry). eqb e.number number) (entries_of (p ∷ ps))
    by true is none rest = absurd (none-some p.1 (sym none))
    by false is none rest = rest none ∙ find_other number p ps (All-head IsOwn p ps h.own) is

-- or a place
pub found_in : (number : ℕ) (ps : List (ℕ × Option Entry)) (o : Option Entry) → AreInPlaces ps → lookup (λ k. eqb number k) ps ≡ Some o → o ≡ find (λ e. eqb e.number number) (entries_of ps)
found_in number [] o h some = absurd (none-some o some)
found_in number (p ∷ ps) o h some = by (eqb number p.0) refl some (found_in number ps o (tail_in p ps h))
  where
    by : (b : Bool) → eqb number p.0 ≡ b → cond b (Some p.1) (lookup (λ (k : ℕ). eqb number k) ps) ≡ Some o → (lookup (λ (k : ℕ). eqb number k) ps ≡ Some o → o ≡ find (λ (e : Entry). eqb e.number number) (entries_of ps))
        → o ≡ find (λ (e : Entry). eqb e.number number) (entries_of (p ∷ ps))
    by true is some rest = find_at number (p ∷ ps) 0 o (is_at number (p ∷ ps) 0 o h (omega arith) (λ d. sym (eqb-true number p.0 is)) some)
    by false is some rest = rest some ∙ find_other number p ps (All-head IsOwn p ps h.own) is

-- where no place has a number
pub not_in : (number : ℕ) (ps : List (ℕ × Option Entry)) → AreInPlaces ps → position (λ k. eqb number k) (keys_of ps) ≡ None → HasNone number (entries_of ps)
not_in number ps h none =
    none_in number ps h.own
    (λ k d lt same.
    let long : length (keys_of ps) ≡ length ps = length-map ps (λ (p : ℕ × Option Entry). p.0) in
    let other = position_none (λ n. eqb number n) (keys_of ps) none k d.0 (omega arith) in
    let here : get_or (keys_of ps) k d.0 ≡ (get_or ps k d).0 = get_or-map (λ (p : ℕ × Option Entry). p.0) ps k d d.0 lt in
    false≢true (sym other ∙ eq-eqb number (get_or (keys_of ps) k d.0) (sym (here ∙ same))))

-- places after a write
pub record AreWritten (ps : List (ℕ × Option Entry)) (items : List Entry) : Type 0 where
  pub places : AreInPlaces ps
  pub are : entries_of ps ≡ items

-- a number that has a place
module _ (ps : List (ℕ × Option Entry)) (items : List Entry) (number i : ℕ) (o : Option Entry) (h : AreInPlaces ps) (same : entries_of ps ≡ items)
    (place : position (λ k. eqb number k) (keys_of ps) ≡ Some i) (there : slice_get (values_of ps) i ≡ Some o) where
  within : i < length ps
  within =
      let long : length (keys_of ps) ≡ length ps = length-map ps (λ (p : ℕ × Option Entry). p.0) in
      let lt = (position-Some (λ n. eqb number n) (keys_of ps) i 0 place).0 in
      omega arith

  key : HoldsAt (λ (p : ℕ × Option Entry). p.0 ≡ number) ps i
  key = λ d.
      let passes = (position-Some (λ n. eqb number n) (keys_of ps) i d.0 place).1 in
      let here : get_or (keys_of ps) i d.0 ≡ (get_or ps i d).0 = get_or-map (λ (p : ℕ × Option Entry). p.0) ps i d d.0 within in
      sym (eqb-true number (get_or (keys_of ps) i d.0) passes ∙ here)

  at : IsAt number ps i o
  at = is_at number ps i o h within key there

  set_in : (new : Option Entry) → IfSome new (λ e. e.number ≡ number) → AreInPlaces (set_value_at ps i new)
  set_in new own = record {
    own = own_set number ps i new h.own within key own;
    rising = λ j k d below lt.
        let long = length_set ps i new in
        let first = number_set ps i j new d in
        let second = number_set ps i k new d in
        let less = h.rising j k d below (omega arith) in
        omega arith;
  }

  pub found : o ≡ find (λ (e : Entry). eqb e.number number) items
  found = find_at number ps i o at ∙ ap (find (λ (e : Entry). eqb e.number number)) same

  pub empty : o ≡ None → HasNone number items
  empty none = subst (HasNone number) same (none_at number ps i (subst (IsAt number ps i) none at))

  pub emptied : AreWritten (set_value_at ps i None) (without number items)
  emptied = record {
    places = set_in None tt;
    are = without_at number ps i o at ∙ ap (without number) same;
  }

  pub written_same : AreWritten (set_value_at ps i o) items
  written_same =
      let is = set_again ps i o there in
      record {
        places = subst AreInPlaces (sym is) h;
        are = ap entries_of is ∙ same;
      }

  pub written : (change : Entry → Entry) → ((e : Entry) → (change e).number ≡ e.number) → AreWritten (set_value_at ps i (option_map change o)) (changed number change items)
  written change keeps = record {
    places = set_in (option_map change o) (changed_own number change keeps o (own_at number ps i o at));
    are = changed_at number change ps i o at ∙ ap (changed number change) same;
  }

  -- or put back as it was, where that was refused
  pub written_if : {R E : Type 0} (r : Result R E) (new : Option Entry) (change : Entry → Entry) → ((e : Entry) → (change e).number ≡ e.number) → OnOk r (new ≡ option_map change o) → OnErr r (new ≡ o)
      → AreInPlaces (set_value_at ps i new) × OnOk r (entries_of (set_value_at ps i new) ≡ changed number change items) × OnErr r (entries_of (set_value_at ps i new) ≡ items)
  written_if (Ok x) new change keeps ok err = let w = written change keeps in rw ok (w.places, w.are, tt)
  written_if (Err x) new change keeps ok err = let w = written_same in rw err (w.places, tt, w.are)

  pub held_there : (test : Entry → Bool) → passes_at number test items ≡ holds_one test o
  held_there test = ap (passes_at number test) (sym same) ∙ passes_there number test ps i o at

-- places that are kept
kept_places : (test : ℕ × Option Entry → Bool) (ps : Pairs) → AreInPlaces ps → AreInPlaces (filter test ps)
kept_places test ps h = record {
  own = All-filter test IsOwn ps h.own;
  rising = AllPairs-filter (λ (p q : ℕ × Option Entry). p.0 < q.0) test ps h.rising;
}

-- those that hold an entry that passes a test
kept_entries : (test : Entry → Bool) (qs : Pairs) → entries_of (filter (λ p. holds_one test p.1) qs) ≡ filter test (entries_of qs)
kept_entries test [] = refl
kept_entries test (q ∷ qs) = by q.1 refl (kept_entries test qs)
  where
    kept : Pairs
    kept = filter (λ (p : ℕ × Option Entry). holds_one test p.1) qs

    tests : (b : Bool) (e : Entry) → q.1 ≡ Some e → entries_of kept ≡ filter test (entries_of qs) → entries_of (cond b (q ∷ kept) kept) ≡ cond b (e ∷ filter test (entries_of qs)) (filter test (entries_of qs))
    tests true e is rest = ap (λ (o : Option Entry). items_in (o ∷ values_of kept)) is ∙ ap (λ l. e ∷ l) rest
    tests false e is rest = rest

    by : (o : Option Entry) → q.1 ≡ o → entries_of kept ≡ filter test (entries_of qs) → entries_of (cond (holds_one test q.1) (q ∷ kept) kept) ≡ filter test (items_in (q.1 ∷ values_of qs))
    by None is rest =
        ap (λ (o : Option Entry). entries_of (cond (holds_one test o) (q ∷ kept) kept)) is
        ∙ rest ∙ ap (λ (o : Option Entry). filter test (items_in (o ∷ values_of qs))) (sym is)
    by (Some e) is rest =
        ap (λ (o : Option Entry). entries_of (cond (holds_one test o) (q ∷ kept) kept)) is
        ∙ tests (test e) e is rest ∙ ap (λ (o : Option Entry). filter test (items_in (o ∷ values_of qs))) (sym is)

-- the places whose entries pass a test hold the entries that pass it
pub kept_in : (test : Entry → Bool) (ps : List (ℕ × Option Entry)) → AreInPlaces ps → AreWritten (filter (λ p. holds_one test p.1) ps) (filter test (entries_of ps))
kept_in test ps h = record {
  places = kept_places (λ (p : ℕ × Option Entry). holds_one test p.1) ps h;
  are = kept_entries test ps;
}

-- those that hold an entry at all
pub closed_up : (ps : List (ℕ × Option Entry)) → AreInPlaces ps → AreWritten (filter (λ p. is_some p.1) ps) (entries_of ps)
closed_up ps h =
    let any = kept_in (λ (e : Entry). true) ps h in
    let same = filter_agree (λ (p : ℕ × Option Entry). is_some p.1) (λ (p : ℕ × Option Entry). holds_one (λ (e : Entry). true) p.1) (λ p. of_any p.1) ps in
    record {
      places = subst AreInPlaces (sym same) any.places;
      are = ap entries_of same ∙ any.are ∙ all_kept (entries_of ps);
    }
  where
    of_any : (o : Option Entry) → is_some o ≡ holds_one (λ (e : Entry). true) o
    of_any None = refl
    of_any (Some e) = refl

    all_kept : (es : List Entry) → filter (λ (e : Entry). true) es ≡ es
    all_kept [] = refl
    all_kept (e ∷ es) = ap (λ l. e ∷ l) (all_kept es)

-- a number above those of all places goes last
pub pushed : (ps : List (ℕ × Option Entry)) (e : Entry) → AreInPlaces ps → All (λ p. p.0 < e.number) ps → AreWritten (insert_entry eqb ps e.number (Some e)) (entries_of ps ++ e ∷ [])
pushed ps e h above = record {
  places = subst AreInPlaces (sym (last ps above)) (record {
    own = All-push IsOwn ps (e.number, Some e) h.own refl;
    rising = all_pairs_push (λ (p q : ℕ × Option Entry). p.0 < q.0) ps (e.number, Some e) h.rising above;
  });
  are = ap entries_of (last ps above) ∙ ap items_in (map-append ps) ∙ items_in-push (values_of ps) e;
}
  where
    last : (qs : Pairs) → All (λ (p : ℕ × Option Entry). p.0 < e.number) qs → insert_entry eqb qs e.number (Some e) ≡ qs ++ (e.number, Some e) ∷ []
    last [] below = refl
    last (q ∷ qs) below =
        cond-false (eqb e.number q.0) ((q.0, Some e) ∷ qs) (q ∷ insert_entry eqb qs e.number (Some e)) (ne_eqb e.number q.0 (λ same. let less = All-head (λ (p : ℕ × Option Entry). p.0 < e.number) q qs below in omega arith))
        ∙ ap (λ (l : Pairs). q ∷ l) (last qs (All-tail (λ (p : ℕ × Option Entry). p.0 < e.number) q qs below))

    map-append : (qs : Pairs) → values_of (qs ++ (e.number, Some e) ∷ []) ≡ values_of qs ++ Some e ∷ []
    map-append [] = refl
    map-append (q ∷ qs) = ap (λ (l : List (Option Entry)). q.1 ∷ l) (map-append qs)

above_full : (number : ℕ) (qs : Pairs) → All IsOwn qs → All (λ (p : ℕ × Option Entry). is_some p.1 ≡ true) qs → All (λ (e : Entry). e.number < number) (entries_of qs) → All (λ (p : ℕ × Option Entry). p.0 < number) qs
above_full number [] own full less = All-nil (λ (p : ℕ × Option Entry). p.0 < number)
above_full number (q ∷ qs) own full less =
    let both = by q.1 (All-head IsOwn q qs own) (All-head (λ (p : ℕ × Option Entry). is_some p.1 ≡ true) q qs full) less in
    All-cons (λ (p : ℕ × Option Entry). p.0 < number) q qs both.0 (above_full number qs (All-tail IsOwn q qs own) (All-tail (λ (p : ℕ × Option Entry). is_some p.1 ≡ true) q qs full) both.1)
  where
    by : (o : Option Entry) → IfSome o (λ e. e.number ≡ q.0) → is_some o ≡ true → All (λ (e : Entry). e.number < number) (items_in (o ∷ values_of qs)) → (q.0 < number) × All (λ (e : Entry). e.number < number) (entries_of qs)
    by None is some rest = absurd (false≢true some)
    by (Some e) is some rest =
        let first = All-head (λ (x : Entry). x.number < number) e (entries_of qs) rest in
        (omega arith, All-tail (λ (x : Entry). x.number < number) e (entries_of qs) rest)

-- a number above those of the entries is above those of all places once these have closed up
pub above_closed : (number : ℕ) (ps : List (ℕ × Option Entry)) → AreInPlaces ps → All (λ e. e.number < number) (entries_of ps) → All (λ p. p.0 < number) (filter (λ p. is_some p.1) ps)
above_closed number ps h below =
    let closed = closed_up ps h in
    above_full number (filter (λ (p : ℕ × Option Entry). is_some p.1) ps) closed.places.own (filter_passes (λ (p : ℕ × Option Entry). is_some p.1) ps)
    (subst (All (λ (e : Entry). e.number < number)) (sym closed.are) below)

-- a number above that of the last place is above those of all
pub above_last : (number : ℕ) (ps : List (ℕ × Option Entry)) → AreInPlaces ps → (last : ℕ × Option Entry) → slice_get ps (length ps - 1) ≡ Some last → last.0 < number → All (λ p. p.0 < number) ps
above_last number ps h last at less = λ k d lt.
    let is : last ≡ get_or ps (length ps - 1) d = read_last ps (length ps - 1) at d in
    ⊎_elim
    (λ below. let before : (get_or ps k d).0 < (get_or ps (length ps - 1) d).0 = h.rising k (length ps - 1) d below (omega arith) in let same = ap (λ (p : ℕ × Option Entry). p.0) is in omega arith)
    (λ other. let here : k ≡ length ps - 1 = omega arith in let same = ap (λ (p : ℕ × Option Entry). p.0) (is ∙ ap (λ j. get_or ps j d) (sym here)) in omega arith)
    (cases_lt k (length ps - 1))
  where
    read_last : (qs : Pairs) (j : ℕ) → slice_get qs j ≡ Some last → (d : ℕ × Option Entry) → last ≡ get_or qs j d
    read_last [] j e d = absurd (none-some last e)
    read_last (q ∷ qs) zero e d = sym (same_Some q last e)
    read_last (q ∷ qs) (suc j) e d = read_last qs j e d

-- no place, no number
pub above_none : (number : ℕ) (ps : List (ℕ × Option Entry)) → None ≡ slice_get ps (length ps - 1) → All (λ p. p.0 < number) ps
above_none number [] none = All-nil (λ (p : ℕ × Option Entry). p.0 < number)
above_none number (p ∷ ps) none = λ k d lt. absurd (there (p ∷ ps) (length (p ∷ ps) - 1) (omega arith) none)
  where
    there : (qs : Pairs) (j : ℕ) → j < length qs → None ≡ slice_get qs j → ⊥
    there [] j lt e = absurd (omega arith)
    there (q ∷ qs) zero lt e = none-some q e
    there (q ∷ qs) (suc j) lt e = there qs j (omega arith) e
