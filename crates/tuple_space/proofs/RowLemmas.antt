use Rattle.std.proofs.Common.{◌≡◌, ℕ, zero, suc, ◌<◌, Bool, true, false, List, [], ◌∷◌, length, get_or, ap, ◌∙◌, sym, refl, cond, eqb, Option, Some, None, ⊎_elim, arith}
use Rattle.std.specs.Prelude.{not, ◌≢◌, ◌&&◌, ◌||◌, is_some, All, Contains, filter, find, map, remove}
use Rattle.std.proofs.Math.ListN.{set}
use Rattle.std.specs.List.{list_any, HoldsAt}
use Rattle.std.proofs.lemmas.Bool.{cases_Bool, cond-true, cond-false, cond_both, eq-eqb, eqb-false, eqb-true, ne_eqb, cases_lt, false≢true, or_from, or_left, or_right}
use Rattle.std.proofs.lemmas.List.{get_or-map, get_or_default, length-map}
use Rattle.std.proofs.lemmas.List.Elements.{All-cons, All-head, All-nil, All-tail}
use Rattle.std.proofs.lemmas.List.Kept.{AllPairs-filter}
use Rattle.std.proofs.lemmas.Option.{none-some, same_Some}
use Rattle.tuple_space.specs.Rows.{IsRising, without, changed}
use Rattle.tuple_space.specs.declared.entry.Entry.{Entry}

-- the entry of a number stands at one place alone
pub record IsOnlyAt (number : ℕ) (es : List Entry) (i : ℕ) : Type 0 where
  pub within : i < length es
  pub here : HoldsAt (λ e. e.number ≡ number) es i
  pub others : (k : ℕ) (d : Entry) → k < length es → k ≢ i → (get_or es k d).number ≢ number

-- no entry has the number
abbrev pub HasNone : ℕ → List Entry → Type 0
HasNone number es = All (λ e. e.number ≢ number) es

-- of rising entries, the one at a place alone has its number
pub only_at : (number : ℕ) (es : List Entry) (i : ℕ) → IsRising es → i < length es → HoldsAt (λ e. e.number ≡ number) es i → IsOnlyAt number es i
only_at number es i rising within here = record {
  within = within;
  here = here;
  others = λ k d lt ne same. ⊎_elim
      (λ below. let less : (get_or es k d).number < (get_or es i d).number = rising k i d below within in let at = here d in omega arith)
      (λ above. let less : (get_or es i d).number < (get_or es k d).number = rising i k d (omega arith) lt in let at = here d in omega arith)
      (cases_lt k i);
}

-- what stands alone behind the first entry stands alone without the first
pub only_tail : (number : ℕ) (x : Entry) (xs : List Entry) (i : ℕ) → IsOnlyAt number (x ∷ xs) (suc i) → IsOnlyAt number xs i
only_tail number x xs i h = record {
  within = let w = h.within in omega arith;
  here = λ d. h.here d;
  others = λ k d lt ne. h.others (suc k) d (omega arith) (λ e. ne (omega arith));
}

-- where the first entry alone has the number, none behind it has
pub none_behind : (number : ℕ) (x : Entry) (xs : List Entry) → IsOnlyAt number (x ∷ xs) zero → HasNone number xs
none_behind number x xs h = λ k d lt. h.others (suc k) d (omega arith) (λ e. omega arith)

-- where a later entry alone has the number, the first doesn't have it
pub other_head : (number : ℕ) (x : Entry) (xs : List Entry) (i : ℕ) → IsOnlyAt number (x ∷ xs) (suc i) → eqb x.number number ≡ false
other_head number x xs i h = ne_eqb _ _ (h.others zero x (omega arith) (λ e. omega arith))

-- where the first entry alone has the number, it does have it
pub same_head : (number : ℕ) (x : Entry) (xs : List Entry) → IsOnlyAt number (x ∷ xs) zero → eqb x.number number ≡ true
same_head number x xs h = eq-eqb _ _ (h.here x)

-- where no entry has the number, the first doesn't
pub none_head : (number : ℕ) (x : Entry) (xs : List Entry) → HasNone number (x ∷ xs) → eqb x.number number ≡ false
none_head number x xs h = ne_eqb _ _ (All-head (λ (e : Entry). e.number ≢ number) x xs h)

-- and none behind it does
pub none_tail : (number : ℕ) (x : Entry) (xs : List Entry) → HasNone number (x ∷ xs) → HasNone number xs
none_tail number x xs h = All-tail (λ (e : Entry). e.number ≢ number) x xs h

-- where no entry has the number, there is none to leave out
pub without_none : (number : ℕ) (es : List Entry) → HasNone number es → without number es ≡ es
without_none number [] h = refl
without_none number (x ∷ xs) h =
    cond-true (not (eqb x.number number)) _ _ (ap not (none_head number x xs h)) ∙ ap (λ l. x ∷ l) (without_none number xs (none_tail number x xs h))

-- the entry that alone has the number is left out by removing it
pub without_place : (number : ℕ) (es : List Entry) (i : ℕ) → IsOnlyAt number es i → remove es i ≡ without number es
without_place number [] i h = let w = h.within in absurd (omega arith)
without_place number (x ∷ xs) zero h =
    sym (cond-false (not (eqb x.number number)) _ _ (ap not (same_head number x xs h)) ∙ without_none number xs (none_behind number x xs h))
without_place number (x ∷ xs) (suc i) h =
    ap (λ l. x ∷ l) (without_place number xs i (only_tail number x xs i h))
    ∙ sym (cond-true (not (eqb x.number number)) _ _ (ap not (other_head number x xs i h)))

-- where no entry has the number, there is none to change
pub changed_none : (number : ℕ) (change : Entry → Entry) (es : List Entry) → HasNone number es → changed number change es ≡ es
changed_none number change [] h = refl
changed_none number change (x ∷ xs) h =
    ap (λ y. y ∷ changed number change xs) (cond-false (eqb x.number number) (change x) x (none_head number x xs h))
    ∙ ap (λ l. x ∷ l) (changed_none number change xs (none_tail number x xs h))

-- the entry that alone has the number is changed by writing over it
pub changed_place : (number : ℕ) (change : Entry → Entry) (es : List Entry) (i : ℕ) (x : Entry) → IsOnlyAt number es i → x ≡ get_or es i x → set es i (change x) ≡ changed number change es
changed_place number change [] i x h is = let w = h.within in absurd (omega arith)
changed_place number change (y ∷ ys) zero x h is =
    ap (λ z. change z ∷ ys) is
    ∙ sym (ap (λ z. z ∷ changed number change ys) (cond-true (eqb y.number number) (change y) y (same_head number y ys h))
    ∙ ap (λ l. change y ∷ l) (changed_none number change ys (none_behind number y ys h)))
changed_place number change (y ∷ ys) (suc i) x h is =
    ap (λ l. y ∷ l) (changed_place number change ys i x (only_tail number y ys i h) is)
    ∙ sym (ap (λ z. z ∷ changed number change ys) (cond-false (eqb y.number number) (change y) y (other_head number y ys i h)))

-- where no entry has the number, none is found by it
pub find_none : (number : ℕ) (es : List Entry) → HasNone number es → None ≡ find (λ (e : Entry). eqb e.number number) es
find_none number [] h = refl
find_none number (x ∷ xs) h =
    find_none number xs (none_tail number x xs h) ∙ sym (cond-false (eqb x.number number) _ _ (none_head number x xs h))

-- the entry that alone has the number is found by it
pub find_place : (number : ℕ) (es : List Entry) (i : ℕ) (x : Entry) → IsOnlyAt number es i → x ≡ get_or es i x → Some x ≡ find (λ (e : Entry). eqb e.number number) es
find_place number [] i x h is = let w = h.within in absurd (omega arith)
find_place number (y ∷ ys) zero x h is = ap Some is ∙ sym (cond-true (eqb y.number number) _ _ (same_head number y ys h))
find_place number (y ∷ ys) (suc i) x h is =
    find_place number ys i x (only_tail number y ys i h) is ∙ sym (cond-false (eqb y.number number) _ _ (other_head number y ys i h))

-- where none is found, there is nothing to leave out
pub find_nothing : (number : ℕ) (es : List Entry) → find (λ (e : Entry). eqb e.number number) es ≡ None → without number es ≡ es
find_nothing number [] none = refl
find_nothing number (x ∷ xs) none = by (eqb x.number number) none (find_nothing number xs)
  where
    by : (b : Bool) → cond b (Some x) (find (λ (e : Entry). eqb e.number number) xs) ≡ None → (find (λ (e : Entry). eqb e.number number) xs ≡ None → without number xs ≡ xs)
        → cond (not b) (x ∷ without number xs) (without number xs) ≡ x ∷ xs
    by true e h = absurd (none-some x (sym e))
    by false e h = ap (λ l. x ∷ l) (h e)

-- where the first applies and nothing passes behind it, its test decides
pub by_head : (a t r : Bool) → a ≡ true → r ≡ false → ((a && t) || r) ≡ t
by_head true true r e f = refl
by_head true false r e f = f
by_head false t r e f = absurd (false≢true e)

-- where the first doesn't apply, what is behind it decides
pub by_tail : (a t r : Bool) → a ≡ false → ((a && t) || r) ≡ r
by_tail true t r e = absurd (false≢true (sym e))
by_tail false t r e = refl

-- whether some entry of a number passes a test
abbrev pub passes_at : ℕ → (Entry → Bool) → List Entry → Bool
passes_at number test es = list_any (λ e. eqb e.number number && test e) es

-- where no entry has the number, none passes a test
pub any_none : (number : ℕ) (test : Entry → Bool) (es : List Entry) → HasNone number es → passes_at number test es ≡ false
any_none number test [] h = refl
any_none number test (x ∷ xs) h =
    by_tail (eqb x.number number) (test x) (passes_at number test xs) (none_head number x xs h) ∙ any_none number test xs (none_tail number x xs h)

-- the entry that alone has the number decides whether one passes
pub any_place : (number : ℕ) (test : Entry → Bool) (es : List Entry) (i : ℕ) (x : Entry) → IsOnlyAt number es i → x ≡ get_or es i x → passes_at number test es ≡ test x
any_place number test [] i x h is = let w = h.within in absurd (omega arith)
any_place number test (y ∷ ys) zero x h is =
    by_head (eqb y.number number) (test y) (passes_at number test ys) (same_head number y ys h) (any_none number test ys (none_behind number y ys h)) ∙ ap test (sym is)
any_place number test (y ∷ ys) (suc i) x h is =
    by_tail (eqb y.number number) (test y) (passes_at number test ys) (other_head number y ys i h) ∙ any_place number test ys i x (only_tail number y ys i h) is

-- of rising entries, the first has a smaller number than those behind it
pub rising_head : (x : Entry) (xs : List Entry) → IsRising (x ∷ xs) → All (λ (y : Entry). x.number < y.number) xs
rising_head x xs h = λ k d lt. h 0 (suc k) d (omega arith) (omega arith)

-- and those rise
pub rising_tail : (x : Entry) (xs : List Entry) → IsRising (x ∷ xs) → IsRising xs
rising_tail x xs h = λ i j d below within. h (suc i) (suc j) d (omega arith) (omega arith)

-- entries that are kept still rise
pub rising_filter : (test : Entry → Bool) (es : List Entry) → IsRising es → IsRising (filter test es)
rising_filter test es h = AllPairs-filter (λ (x y : Entry). x.number < y.number) test es h

-- entries whose numbers stay still rise
pub rising_map : (change : Entry → Entry) → ((e : Entry) → (change e).number ≡ e.number) → (es : List Entry) → IsRising es → IsRising (map change es)
rising_map change keeps es h = λ i j d below within.
    let long : length (map change es) ≡ length es = length-map es change in
    let less : (get_or es i d).number < (get_or es j d).number = h i j d below (omega arith) in
    let at_i = ap (λ (e : Entry). e.number) (get_or-map change es i d d (omega arith)) ∙ keeps (get_or es i d) in
    let at_j = ap (λ (e : Entry). e.number) (get_or-map change es j d d (omega arith)) ∙ keeps (get_or es j d) in
    omega arith

-- a number stays where the entry of a number is changed in other things
pub changed_number : (number : ℕ) (change : Entry → Entry) → ((e : Entry) → (change e).number ≡ e.number) → (e : Entry) → (cond (eqb e.number number) (change e) e).number ≡ e.number
changed_number number change keeps e = cond_both (eqb e.number number) (change e) e (λ (x : Entry). x.number ≡ e.number) (λ t. keeps e) (λ t. refl)

-- no entry has the number
pub number_none : (number : ℕ) (es : List Entry) → HasNone number es → list_any (λ (e : Entry). eqb e.number number) es ≡ false
number_none number [] h = refl
number_none number (x ∷ xs) h = or_from _ _ (none_head number x xs h) (number_none number xs (none_tail number x xs h))

-- the entry at a place has it
pub number_at : (number : ℕ) (es : List Entry) (i : ℕ) → i < length es → HoldsAt (λ (e : Entry). e.number ≡ number) es i → list_any (λ (e : Entry). eqb e.number number) es ≡ true
number_at number [] i lt here = absurd (omega arith)
number_at number (x ∷ xs) zero lt here = or_left (eqb x.number number) (list_any (λ (e : Entry). eqb e.number number) xs) (eq-eqb x.number number (here x))
number_at number (x ∷ xs) (suc i) lt here = or_right (eqb x.number number) (list_any (λ (e : Entry). eqb e.number number) xs) (number_at number xs i (omega arith) (λ d. here d))

either : (b : Bool) (x : Entry) (o : Option Entry) (rest : Bool) → is_some o ≡ rest → is_some (cond b (Some x) o) ≡ (b || rest)
either true x o rest h = refl
either false x o rest h = h

-- an entry passes a test just where one is found
pub found_any : (test : Entry → Bool) (es : List Entry) → is_some (find test es) ≡ list_any test es
found_any test [] = refl
found_any test (x ∷ xs) = either (test x) x (find test xs) (list_any test xs) (found_any test xs)

-- the entry that is found by a number, and where it stands
pub record FoundAt (number : ℕ) (es : List Entry) (x : Entry) : Type 0 where
  pub place : ℕ
  pub only : IsOnlyAt number es place
  pub is : x ≡ get_or es place x
  pub own : x.number ≡ number

-- an entry found by a number stands at a place and alone has it
pub found_at : (number : ℕ) (es : List Entry) (x : Entry) → IsRising es → Some x ≡ find (λ (e : Entry). eqb e.number number) es → FoundAt number es x
found_at number [] x rising h = absurd (none-some x (sym h))
found_at number (y ∷ ys) x rising h = ⊎_elim
    (λ t.
    let same = same_Some x y (h ∙ cond-true (eqb y.number number) (Some y) (find (λ (e : Entry). eqb e.number number) ys) t) in
    record {
      place = 0;
      only = only_at number (y ∷ ys) 0 rising (omega arith) (λ d. eqb-true y.number number t);
      is = same;
      own = ap (λ (e : Entry). e.number) same ∙ eqb-true y.number number t;
    })
    (λ f.
    let rest = found_at number ys x (rising_tail y ys rising) (h ∙ cond-false (eqb y.number number) (Some y) (find (λ (e : Entry). eqb e.number number) ys) f) in
    let within = rest.only.within in
    record {
      place = suc rest.place;
      only = only_at number (y ∷ ys) (suc rest.place) rising (omega arith) (λ d. rest.only.here d);
      is = rest.is;
      own = rest.own;
    })
    (cases_Bool (eqb y.number number))

-- no entry has a number by which none is found
pub none_found : (number : ℕ) (es : List Entry) → None ≡ find (λ (e : Entry). eqb e.number number) es → HasNone number es
none_found number [] h = All-nil (λ (e : Entry). e.number ≢ number)
none_found number (y ∷ ys) h = ⊎_elim
    (λ t. absurd (none-some y (h ∙ cond-true (eqb y.number number) (Some y) (find (λ (e : Entry). eqb e.number number) ys) t)))
    (λ f. All-cons (λ (e : Entry). e.number ≢ number) y ys (eqb-false y.number number f)
    (none_found number ys (h ∙ cond-false (eqb y.number number) (Some y) (find (λ (e : Entry). eqb e.number number) ys) f)))
    (cases_Bool (eqb y.number number))

-- and it stands among them
pub found_stands : (number : ℕ) (es : List Entry) (x : Entry) → FoundAt number es x → Contains es x
found_stands number es x found = (found.place, found.only.within, sym found.is)

-- two changes that are alike at the entry of a number
pub changed_alike : (number : ℕ) (change other : Entry → Entry) (es : List Entry) (i : ℕ) (x : Entry) → IsOnlyAt number es i → x ≡ get_or es i x → change x ≡ other x → changed number change es ≡ changed number other es
changed_alike number change other es i x only is same =
    sym (changed_place number change es i x only is) ∙ ap (λ y. set es i y) same ∙ changed_place number other es i x only is

-- an entry that stands among others is found by its number
pub stands_found : (es : List Entry) (x : Entry) → IsRising es → Contains es x → Some x ≡ find (λ (e : Entry). eqb e.number x.number) es
stands_found es x rising stands =
    let only = only_at x.number es stands.0 rising stands.1 (λ d. ap (λ (e : Entry). e.number) (sym (get_or_default es stands.0 x d stands.1) ∙ stands.2)) in
    find_place x.number es stands.0 x only (sym stands.2)
