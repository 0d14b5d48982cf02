use Rattle.std.proofs.Common.{◌≡◌, Bool, ⊎_elim, subst, ℕ, zero, suc, ◌+◌, ◌-◌, ◌<◌, ◌≤◌, List, [], ◌∷◌, true, false, length, get_or, drop, Option, Some, None, ap, ◌∙◌, sym, refl, cond, eqb, ltb, arith}
use Rattle.std.specs.Prelude.{◌≢◌, ◌||◌, find, filter, insert, is_some, slice_get, All}
use Rattle.std.proofs.lemmas.List.Kept.{AllPairs-cons}
use Rattle.std.proofs.lemmas.Option.{same_Some}
use Rattle.std.proofs.lemmas.List.Elements.{All-head, All-tail, All-cons, All-nil}
use Rattle.tuple_space.specs.Holds.{holds_with}
use Rattle.tuple_space.specs.Lease.{is_permanent}
use Rattle.tuple_space.specs.Entry.{is_held_by}
use Rattle.tuple_space.specs.Rows.{IsRising, changed}
use Rattle.tuple_space.specs.Held.{AreRising, HasHeld, is_among, numbers_by}
use Rattle.tuple_space.specs.Space.{held_by}
use Rattle.tuple_space.proofs.HeldLemmas.{held_each, numbers_mine, numbers_other}
use Rattle.tuple_space.proofs.RowLemmas.{HasNone, changed_none, find_none, rising_head, rising_tail}
use Rattle.std.proofs.Math.ListN.{drop_of_length-le, set}
use Rattle.std.proofs.Math.Seq.{drop-length}
use Rattle.std.specs.List.{AllPairs, AllWithin, HoldsAt, cons_option, filter_map, list_any}
use Rattle.std.specs.Option.{option_and_then, option_map}
use Rattle.std.proofs.lemmas.List.{drop_more, length-drop}
use Rattle.std.proofs.lemmas.Bool.{cond-true, cond-false, eq-eqb, eqb-true, false≢true, ne_eqb, lt-ltb, le-ltb, cases_Bool, or_cases, or_from, or_left, or_right}
use Rattle.tuple_space.specs.declared.entry.Entry.{Entry}
use Rattle.tuple_space.specs.declared.held.Held.{Held}
use Rattle.tuple_space.specs.declared.hold.Hold.{Hold}
use Rattle.space_txn.specs.declared.mark.Mark.{Mark}
use Rattle.space_txn.specs.Marks.{mark_at, mark_in, mark_from, mark_of, marks_of, new_mark, with_mark}

-- the rest of the marks is that of the things from a place on, just where all are those of all things
pub record Tracks {X : Type 0} (mark : X → Option Mark) (marks : List Mark) (xs : List X) (rest : List Mark) (i : ℕ) : Type 0 where
  pub forth : rest ≡ filter_map mark (drop i xs) → marks ≡ filter_map mark xs
  pub back : marks ≡ filter_map mark xs → rest ≡ filter_map mark (drop i xs)

-- the hold that a transaction has of an entry
abbrev pub hold_at : ℕ → Entry → Option Hold
hold_at number e = find (λ (h : Hold). eqb h.by number) e.holds

marks_from : {X : Type 0} (mark : X → Option Mark) (xs : List X) (i : ℕ) (x : X) → i < length xs → x ≡ get_or xs i x → filter_map mark (drop i xs) ≡ cons_option (mark x) (filter_map mark (drop (i + 1) xs))
marks_from mark xs i x lt is =
    ap (filter_map mark) (drop_more xs i x lt) ∙ ap (λ y. cons_option (mark y) (filter_map mark (drop (i + 1) xs))) (sym is)

cons_same : {X : Type 0} (o : Option X) (xs ys : List X) → cons_option o xs ≡ cons_option o ys → xs ≡ ys
cons_same None xs ys e = e
cons_same (Some x) xs ys e = cc

-- one thing more, whose mark the rest of the marks begins with, if it has one
pub Tracks-more : {X : Type 0} (mark : X → Option Mark) (marks : List Mark) (xs : List X) (rest behind : List Mark) (i : ℕ) (x : X) → i < length xs → x ≡ get_or xs i x → rest ≡ cons_option (mark x) behind → Tracks mark marks xs rest i → Tracks mark marks xs behind (i + 1)
Tracks-more mark marks xs rest behind i x lt is parts h =
    let all = filter_map mark (drop (i + 1) xs) in
    let same = marks_from mark xs i x lt is in
    record {
      forth = λ e. h.forth (parts ∙ ap (λ (l : List Mark). cons_option (mark x) l) e ∙ sym same);
      back = λ e. cons_same (mark x) behind all (sym parts ∙ h.back e ∙ same);
    }

-- where the rest doesn't begin with the next mark, the marks aren't these
pub marks_differ : {X : Type 0} (mark : X → Option Mark) (marks : List Mark) (xs : List X) (rest : List Mark) (i : ℕ) (x : X) → i < length xs → x ≡ get_or xs i x → ((behind : List Mark) → rest ≡ cons_option (mark x) behind → ⊥) → Tracks mark marks xs rest i → marks ≡ filter_map mark xs → ⊥
marks_differ mark marks xs rest i x lt is other h e = other (filter_map mark (drop (i + 1) xs)) (h.back e ∙ marks_from mark xs i x lt is)

-- at the end of the things the marks are these just where all marks are behind
none_left : {X : Type 0} (mark : X → Option Mark) (xs : List X) (i : ℕ) → length xs ≤ i → filter_map mark (drop i xs) ≡ []
none_left mark xs i past = ap (filter_map mark) (drop_of_length-le xs past)

-- behind the last thing, where no mark is left, the marks are those of the things
pub Tracks-forth : {X : Type 0} (mark : X → Option Mark) (marks : List Mark) (xs : List X) (place i : ℕ) → length xs ≤ i → Tracks mark marks xs (drop place marks) i → eqb place (length marks) ≡ true → marks ≡ filter_map mark xs
Tracks-forth mark marks xs place i past h all =
    h.forth (ap (λ n. drop n marks) (eqb-true place (length marks) all) ∙ drop-length marks ∙ sym (none_left mark xs i past))

-- and where the marks are those of the things, none is left there
pub Tracks-back : {X : Type 0} (mark : X → Option Mark) (marks : List Mark) (xs : List X) (place i : ℕ) → length xs ≤ i → place ≤ length marks → Tracks mark marks xs (drop place marks) i → marks ≡ filter_map mark xs → eqb place (length marks) ≡ true
Tracks-back mark marks xs place i past within h e =
    let left : drop place marks ≡ [] = h.back e ∙ none_left mark xs i past in
    let long : length (drop place marks) ≡ length marks - place = length-drop place marks in
    let empty : length (drop place marks) ≡ 0 = ap length left in
    eq-eqb place (length marks) (omega arith)

-- the first mark on an entry of a number
pub found_at : (n : ℕ) (xs : List Mark) (i : ℕ) (m : Mark) → AllWithin (λ x. x.entry ≢ n) xs 0 i → i < length xs → m ≡ get_or xs i m → HoldsAt (λ x. x.entry ≡ n) xs i → Some m ≡ find (λ (x : Mark). eqb x.entry n) xs
found_at n [] i m before lt is at = absurd (omega arith)
found_at n (x ∷ xs) zero m before lt is at =
    ap Some is ∙ sym (cond-true (eqb x.entry n) (Some x) (find (λ (y : Mark). eqb y.entry n) xs) (eq-eqb _ _ (at x)))
found_at n (x ∷ xs) (suc i) m before lt is at =
    found_at n xs i m (λ k d from to. before (suc k) d (omega arith) (omega arith)) (omega arith) is (λ d. at d)
    ∙ sym (cond-false (eqb x.entry n) (Some x) (find (λ (y : Mark). eqb y.entry n) xs) (ne_eqb _ _ (before zero x (omega arith) (omega arith))))

-- none is found where no mark is on the entry of the number
pub found_none : (n : ℕ) (xs : List Mark) (i : ℕ) → AllWithin (λ x. x.entry ≢ n) xs 0 i → length xs ≤ i → None ≡ find (λ (x : Mark). eqb x.entry n) xs
found_none n [] i before past = refl
found_none n (x ∷ xs) zero before past = absurd (omega arith)
found_none n (x ∷ xs) (suc i) before past =
    found_none n xs i (λ k d from to. before (suc k) d (omega arith) (omega arith)) (omega arith)
    ∙ sym (cond-false (eqb x.entry n) (Some x) (find (λ (y : Mark). eqb y.entry n) xs) (ne_eqb _ _ (before zero x (omega arith) (omega arith))))

-- a mark written over the one on the same entry
pub with_mark_set : (m : Mark) (xs : List Mark) (i : ℕ) → i < length xs → AllWithin (λ x. x.entry < m.entry) xs 0 i → HoldsAt (λ x. x.entry ≡ m.entry) xs i → set xs i m ≡ with_mark m xs
with_mark_set m [] i lt before here = absurd (omega arith)
with_mark_set m (x ∷ xs) zero lt before here =
    sym (cond-false (ltb x.entry m.entry) (x ∷ with_mark m xs) (cond (eqb x.entry m.entry) (m ∷ xs) (m ∷ x ∷ xs)) (le-ltb _ _ (let same = here x in omega arith))
    ∙ cond-true (eqb x.entry m.entry) (m ∷ xs) (m ∷ x ∷ xs) (eq-eqb _ _ (here x)))
with_mark_set m (x ∷ xs) (suc i) lt before here =
    ap (λ l. x ∷ l) (with_mark_set m xs i (omega arith) (λ k d from to. before (suc k) d (omega arith) (omega arith)) (λ d. here d))
    ∙ sym (cond-true (ltb x.entry m.entry) (x ∷ with_mark m xs) (cond (eqb x.entry m.entry) (m ∷ xs) (m ∷ x ∷ xs)) (lt-ltb _ _ (before zero x (omega arith) (omega arith))))

-- a mark put in front of those on entries of greater numbers
pub with_mark_insert : (m : Mark) (xs : List Mark) (i : ℕ) → i ≤ length xs → AllWithin (λ x. x.entry < m.entry) xs 0 i → (i < length xs → HoldsAt (λ x. m.entry < x.entry) xs i) → insert xs i m ≡ with_mark m xs
with_mark_insert m [] zero le before above = refl
with_mark_insert m [] (suc i) le before above = absurd (omega arith)
with_mark_insert m (x ∷ xs) zero le before above =
    let more : m.entry < x.entry = above (omega arith) x in
    sym (cond-false (ltb x.entry m.entry) (x ∷ with_mark m xs) (cond (eqb x.entry m.entry) (m ∷ xs) (m ∷ x ∷ xs)) (le-ltb _ _ (omega arith))
    ∙ cond-false (eqb x.entry m.entry) (m ∷ xs) (m ∷ x ∷ xs) (ne_eqb _ _ (λ e. omega arith)))
with_mark_insert m (x ∷ xs) (suc i) le before above =
    ap (λ l. x ∷ l) (with_mark_insert m xs i (omega arith) (λ k d from to. before (suc k) d (omega arith) (omega arith)) (λ lt d. above (omega arith) d))
    ∙ sym (cond-true (ltb x.entry m.entry) (x ∷ with_mark m xs) (cond (eqb x.entry m.entry) (m ∷ xs) (m ∷ x ∷ xs)) (lt-ltb _ _ (before zero x (omega arith) (omega arith))))

-- the hold that a holder has after it was put there
find_with : (h : Hold) (hs : List Hold) → find (λ (x : Hold). eqb x.by h.by) (holds_with h hs) ≡ Some h
find_with h [] = cond-true (eqb h.by h.by) (Some h) None (eq-eqb h.by h.by refl)
find_with h (x ∷ xs) = ⊎_elim
    (λ same. ap (find (λ (y : Hold). eqb y.by h.by)) (cond-true (eqb x.by h.by) (h ∷ xs) (x ∷ holds_with h xs) same)
    ∙ cond-true (eqb h.by h.by) (Some h) (find (λ (y : Hold). eqb y.by h.by) xs) (eq-eqb h.by h.by refl))
    (λ other. ap (find (λ (y : Hold). eqb y.by h.by)) (cond-false (eqb x.by h.by) (h ∷ xs) (x ∷ holds_with h xs) other)
    ∙ cond-false (eqb x.by h.by) (Some x) (find (λ (y : Hold). eqb y.by h.by) (holds_with h xs)) other ∙ find_with h xs)
    (cases_Bool (eqb x.by h.by))

mark_of_held : (number : ℕ) (taken : Bool) (e : Entry) → mark_of number (held_by number taken e) ≡ Some (new_mark e taken)
mark_of_held number taken e =
    ap (option_map (mark_from (held_by number taken e))) (find_with (record { by = number; taken = taken; permanent = is_permanent e.end }) e.holds)

-- a mark on an entry before all others stands in front of theirs
with_mark_front : (m : Mark) (xs : List Mark) → All (λ x. m.entry < x.entry) xs → with_mark m xs ≡ m ∷ xs
with_mark_front m [] above = refl
with_mark_front m (x ∷ xs) above =
    let more : m.entry < x.entry = All-head (λ (y : Mark). m.entry < y.entry) x xs above in
    cond-false (ltb x.entry m.entry) (x ∷ with_mark m xs) (cond (eqb x.entry m.entry) (m ∷ xs) (m ∷ x ∷ xs)) (le-ltb _ _ (omega arith))
    ∙ cond-false (eqb x.entry m.entry) (m ∷ xs) (m ∷ x ∷ xs) (ne_eqb _ _ (λ e. omega arith))

-- a mark on an entry, before those on later entries, in the place of an older one on it
pub with_mark_here : (m : Mark) (e : Entry) (o : Option Hold) (ys : List Mark) → e.number ≡ m.entry → All (λ x. m.entry < x.entry) ys → with_mark m (cons_option (option_map (mark_from e) o) ys) ≡ m ∷ ys
with_mark_here m e None ys same above = with_mark_front m ys above
with_mark_here m e (Some h) ys same above =
    let x = mark_from e h in
    cond-false (ltb e.number m.entry) (x ∷ with_mark m ys) (cond (eqb e.number m.entry) (m ∷ ys) (m ∷ x ∷ ys)) (le-ltb _ _ (omega arith))
    ∙ cond-true (eqb e.number m.entry) (m ∷ ys) (m ∷ x ∷ ys) (eq-eqb _ _ same)

-- a mark on a later entry goes behind the one on this entry, if there is one
pub with_mark_later : (m : Mark) (e : Entry) (o : Option Hold) (ys : List Mark) → e.number < m.entry → with_mark m (cons_option (option_map (mark_from e) o) ys) ≡ cons_option (option_map (mark_from e) o) (with_mark m ys)
with_mark_later m e None ys less = refl
with_mark_later m e (Some h) ys less =
    let x = mark_from e h in
    cond-true (ltb e.number m.entry) (x ∷ with_mark m ys) (cond (eqb e.number m.entry) (m ∷ ys) (m ∷ x ∷ ys)) (lt-ltb _ _ less)

above_cons : (least : ℕ) (e : Entry) (o : Option Hold) (ys : List Mark) → least < e.number → All (λ (x : Mark). least < x.entry) ys → All (λ (x : Mark). least < x.entry) (cons_option (option_map (mark_from e) o) ys)
above_cons least e None ys less all = all
above_cons least e (Some h) ys less all = All-cons (λ (x : Mark). least < x.entry) (mark_from e h) ys less all

-- the marks on entries above a number are above it
pub marks_above : (least number : ℕ) (es : List Entry) → All (λ (e : Entry). least < e.number) es → All (λ (x : Mark). least < x.entry) (marks_of number es)
marks_above least number [] h = All-nil (λ (x : Mark). least < x.entry)
marks_above least number (e ∷ es) h =
    above_cons least e (hold_at number e) (marks_of number es) (All-head (λ (e : Entry). least < e.number) e es h) (marks_above least number es (All-tail (λ (e : Entry). least < e.number) e es h))

-- the marks of a transaction after it marked an entry
pub marks_after : (number : ℕ) (taken : Bool) (es : List Entry) (i : ℕ) (e : Entry) → IsRising es → i < length es → get_or es i e ≡ e → with_mark (new_mark e taken) (marks_of number es) ≡ marks_of number (changed e.number (held_by number taken) es)
marks_after number taken [] i e rising lt is = absurd (omega arith)
marks_after number taken (x ∷ xs) zero e rising lt is =
    let behind = rising_head x xs rising in
    let m = new_mark x taken in
    let none : HasNone x.number xs = λ k d within same. (let less = behind k d within in omega arith) in
    let head = cond-true (eqb x.number x.number) (held_by number taken x) x (eq-eqb x.number x.number refl) in
    let P : Entry → Type 0 = λ y. with_mark (new_mark y taken) (marks_of number (x ∷ xs)) ≡ marks_of number (changed y.number (held_by number taken) (x ∷ xs)) in
    subst P is
    (with_mark_here m x (hold_at number x) (marks_of number xs) refl (marks_above x.number number xs behind)
    ∙ sym (ap (λ (y : Entry). marks_of number (y ∷ changed x.number (held_by number taken) xs)) head
    ∙ ap (λ (l : List Entry). marks_of number (held_by number taken x ∷ l)) (changed_none x.number (held_by number taken) xs none)
    ∙ ap (λ (o : Option Mark). cons_option o (marks_of number xs)) (mark_of_held number taken x)))
marks_after number taken (x ∷ xs) (suc i) e rising lt is =
    let within : i < length xs = omega arith in
    let at : (get_or xs i e).number ≡ e.number = ap (λ (y : Entry). y.number) is in
    let less_at = rising_head x xs rising i e within in
    let less : x.number < e.number = omega arith in
    let other = cond-false (eqb x.number e.number) (held_by number taken x) x (ne_eqb _ _ (λ same. omega arith)) in
    with_mark_later (new_mark e taken) x (hold_at number x) (marks_of number xs) less
    ∙ ap (λ (l : List Mark). cons_option (mark_of number x) l) (marks_after number taken xs i e (rising_tail x xs rising) within is)
    ∙ sym (ap (λ (y : Entry). marks_of number (y ∷ changed e.number (held_by number taken) xs)) other)

-- the entries that have one of some numbers
abbrev numbered : List ℕ → List Entry → List Entry
numbered ns es = filter (λ e. is_among e.number ns) es

unmarked : (held among : Bool) → (held ≡ true → among ≡ true) → among ≡ false → held ≡ false
unmarked true among has none = absurd (false≢true (sym none ∙ has refl))
unmarked false among has none = refl

not_both : (b : Bool) → (b ≡ true → ⊥) → b ≡ false
not_both true none = absurd (none refl)
not_both false none = refl

-- a transaction has no mark on an entry that it doesn't hold
no_hold : (number : ℕ) (hs : List Hold) → list_any (λ (h : Hold). eqb h.by number) hs ≡ false → find (λ (h : Hold). eqb h.by number) hs ≡ None
no_hold number [] none = refl
no_hold number (h ∷ hs) none = ⊎_elim
    (λ mine. absurd (false≢true (sym none ∙ or_left (eqb h.by number) (list_any (λ (x : Hold). eqb x.by number) hs) mine)))
    (λ other. cond-false (eqb h.by number) (Some h) (find (λ (x : Hold). eqb x.by number) hs) other
    ∙ no_hold number hs (sym (ap (λ b. b || list_any (λ (x : Hold). eqb x.by number) hs) other) ∙ none))
    (cases_Bool (eqb h.by number))

marks_noted : (number : ℕ) (ns : List ℕ) (es : List Entry) → All (λ e. is_held_by number e ≡ true → is_among e.number ns ≡ true) es → marks_of number es ≡ marks_of number (numbered ns es)
marks_noted number ns [] h = refl
marks_noted number ns (x ∷ xs) h =
    let P : Entry → Type 0 = λ e. is_held_by number e ≡ true → is_among e.number ns ≡ true in
    let rest = marks_noted number ns xs (All-tail P x xs h) in
    ⊎_elim
    (λ noted. ap (λ l. cons_option (mark_of number x) l) rest ∙ sym (ap (marks_of number) (cond-true (is_among x.number ns) (x ∷ numbered ns xs) (numbered ns xs) noted)))
    (λ other. ap (λ o. cons_option (option_map (mark_from x) o) (marks_of number xs)) (no_hold number x.holds (unmarked (is_held_by number x) (is_among x.number ns) (All-head P x xs h) other))
    ∙ rest ∙ sym (ap (marks_of number) (cond-false (is_among x.number ns) (x ∷ numbered ns xs) (numbered ns xs) other)))
    (cases_Bool (is_among x.number ns))

-- a number that is among some isn't below all of them
above_least : (n m : ℕ) (ns : List ℕ) → All (λ k. n < k) ns → is_among m ns ≡ true → n < m
above_least n m [] h among = absurd (false≢true among)
above_least n m (k ∷ ks) h among = ⊎_elim
    (λ same. let is = eqb-true m k same in let less : n < k = All-head (λ (k : ℕ). n < k) k ks h in omega arith)
    (λ behind. above_least n m ks (All-tail (λ (k : ℕ). n < k) k ks h) behind)
    (or_cases (eqb m k) (is_among m ks) among)

numbers_head : (n : ℕ) (ns : List ℕ) → AreRising (n ∷ ns) → All (λ k. n < k) ns
numbers_head n ns h = λ k d lt. h 0 (suc k) d (omega arith) (omega arith)

numbers_tail : (n : ℕ) (ns : List ℕ) → AreRising (n ∷ ns) → AreRising ns
numbers_tail n ns h = λ i j d below within. h (suc i) (suc j) d (omega arith) (omega arith)

none_above : (n : ℕ) (x : Entry) (xs : List Entry) → IsRising (x ∷ xs) → n ≤ x.number → find (λ (e : Entry). eqb e.number n) xs ≡ None
none_above n x xs rising le = sym (find_none n xs (λ k d lt same. (let less = rising_head x xs rising k d lt in omega arith)))

-- the entries that have one of some numbers: that of the first number, and those of the others
numbered_more : (n : ℕ) (ns : List ℕ) (es : List Entry) → AreRising (n ∷ ns) → IsRising es
    → numbered (n ∷ ns) es ≡ cons_option (find (λ (e : Entry). eqb e.number n) es) (numbered ns es)
numbered_more n ns [] h rising = refl
numbered_more n ns (x ∷ xs) h rising =
    let found = find (λ (e : Entry). eqb e.number n) xs in
    let more = numbered (n ∷ ns) xs in
    let less = numbered ns xs in
    let rest : more ≡ cons_option found less = numbered_more n ns xs h (rising_tail x xs rising) in
    ⊎_elim
    (λ same.
    let is : x.number ≡ n = eqb-true x.number n same in
    let alone = none_above n x xs rising (omega arith) in
    let far = not_both (is_among x.number ns) (λ among. (let below : n < x.number = above_least n x.number ns (numbers_head n ns h) among in absurd (omega arith))) in
    cond-true (is_among x.number (n ∷ ns)) (x ∷ more) more (or_left (eqb x.number n) (is_among x.number ns) same)
    ∙ ap (λ l. x ∷ l) (rest ∙ ap (λ (o : Option Entry). cons_option o less) alone)
    ∙ sym (ap (λ (o : Option Entry). cons_option o (numbered ns (x ∷ xs))) (cond-true (eqb x.number n) (Some x) found same)
    ∙ ap (λ l. x ∷ l) (cond-false (is_among x.number ns) (x ∷ less) less far)))
    (λ other. ⊎_elim
    (λ among.
    let below : n < x.number = above_least n x.number ns (numbers_head n ns h) among in
    let alone = none_above n x xs rising (omega arith) in
    cond-true (is_among x.number (n ∷ ns)) (x ∷ more) more (or_right (eqb x.number n) (is_among x.number ns) among)
    ∙ ap (λ l. x ∷ l) (rest ∙ ap (λ (o : Option Entry). cons_option o less) alone)
    ∙ sym (ap (λ (o : Option Entry). cons_option o (numbered ns (x ∷ xs))) (cond-false (eqb x.number n) (Some x) found other ∙ alone)
    ∙ cond-true (is_among x.number ns) (x ∷ less) less among))
    (λ far.
    cond-false (is_among x.number (n ∷ ns)) (x ∷ more) more (or_from (eqb x.number n) (is_among x.number ns) other far) ∙ rest
    ∙ sym (ap (λ (o : Option Entry). cons_option o (numbered ns (x ∷ xs))) (cond-false (eqb x.number n) (Some x) found other)
    ∙ ap (λ l. cons_option found l) (cond-false (is_among x.number ns) (x ∷ less) less far)))
    (cases_Bool (is_among x.number ns)))
    (cases_Bool (eqb x.number n))

mark_first : (number : ℕ) (o : Option Entry) (es : List Entry) → marks_of number (cons_option o es) ≡ cons_option (option_and_then (mark_of number) o) (marks_of number es)
mark_first number None es = refl
mark_first number (Some e) es = refl

none_numbered : (es : List Entry) → numbered [] es ≡ []
none_numbered [] = refl
none_numbered (x ∷ xs) = none_numbered xs

marks_numbered : (number : ℕ) (ns : List ℕ) (es : List Entry) → AreRising ns → IsRising es → marks_of number (numbered ns es) ≡ filter_map (mark_at number es) ns
marks_numbered number [] es h rising = ap (marks_of number) (none_numbered es)
marks_numbered number (n ∷ ns) es h rising =
    ap (marks_of number) (numbered_more n ns es h rising)
    ∙ mark_first number (find (λ (e : Entry). eqb e.number n) es) (numbered ns es)
    ∙ ap (λ l. cons_option (mark_at number es n) l) (marks_numbered number ns es (numbers_tail n ns h) rising)

-- the marks in a transaction's own rows
marks_by : (number : ℕ) (rows : List Held) (es : List Entry) → filter_map (mark_at number es) (numbers_by number rows) ≡ filter_map (mark_in number es) rows
marks_by number [] es = refl
marks_by number (r ∷ rs) es =
    let rest = marks_by number rs es in
    let all = filter_map (mark_in number es) rs in
    ⊎_elim
    (λ mine. ap (filter_map (mark_at number es)) (numbers_mine number r rs mine)
    ∙ ap (λ l. cons_option (mark_at number es r.entry) l) rest
    ∙ sym (ap (λ o. cons_option o all) (cond-true (eqb r.by number) (mark_at number es r.entry) None mine)))
    (λ other. ap (filter_map (mark_at number es)) (numbers_other number r rs other) ∙ rest
    ∙ sym (ap (λ o. cons_option o all) (cond-false (eqb r.by number) (mark_at number es r.entry) None other)))
    (cases_Bool (eqb r.by number))

-- the marks of a transaction, by the rows of those who hold entries
pub marks_held : (number : ℕ) (rows : List Held) (es : List Entry) → IsRising es → HasHeld rows es → marks_of number es ≡ filter_map (mark_in number es) rows
marks_held number rows es rising h =
    let mine = h.of number in
    marks_noted number (numbers_by number rows) es (held_each number (numbers_by number rows) es mine) ∙ marks_numbered number (numbers_by number rows) es mine.rising rising ∙ marks_by number rows es

-- no mark on a later entry is on this one
pub find_above : (number : ℕ) (ms : List Mark) → All (λ (m : Mark). number < m.entry) ms → find (λ (m : Mark). eqb m.entry number) ms ≡ None
find_above number [] above = refl
find_above number (m ∷ ms) above =
    let P : Mark → Type 0 = λ x. number < x.entry in
    let less : number < m.entry = All-head P m ms above in
    cond-false (eqb m.entry number) (Some m) (find (λ (x : Mark). eqb x.entry number) ms) (ne_eqb _ _ (λ same. omega arith)) ∙ find_above number ms (All-tail P m ms above)

-- the marks of a transaction stand in rising order
rising_more : (e : Entry) (o : Option Hold) (ms : List Mark) → All (λ (x : Mark). e.number < x.entry) ms → AllPairs (λ (x : Mark) (y : Mark). x.entry < y.entry) ms
    → AllPairs (λ (x : Mark) (y : Mark). x.entry < y.entry) (cons_option (option_map (mark_from e) o) ms)
rising_more e None ms above rising = rising
rising_more e (Some h) ms above rising = AllPairs-cons (λ (x : Mark) (y : Mark). x.entry < y.entry) (mark_from e h) ms above rising

-- a transaction's marks are in rising order of the entries' numbers
pub marks_rising : (number : ℕ) (es : List Entry) → IsRising es → AllPairs (λ (x : Mark) (y : Mark). x.entry < y.entry) (marks_of number es)
marks_rising number [] rising = λ i j d below within. absurd (omega arith)
marks_rising number (e ∷ es) rising =
    rising_more e (hold_at number e) (marks_of number es) (marks_above e.number number es (rising_head e es rising)) (marks_rising number es (rising_tail e es rising))

-- the first mark on an entry of a number or a greater one, where some mark is on that entry
pub marked_at : (n : ℕ) (ms : List Mark) (i : ℕ) → AllPairs (λ (x : Mark) (y : Mark). x.entry < y.entry) ms → is_some (find (λ (x : Mark). eqb x.entry n) ms) ≡ true
    → AllWithin (λ x. x.entry < n) ms 0 i → (i < length ms → HoldsAt (λ x. n ≤ x.entry) ms i) → (i < length ms) × HoldsAt (λ x. x.entry ≡ n) ms i
marked_at n [] i rising marked before above = absurd (false≢true marked)
marked_at n (x ∷ xs) zero rising marked before above = ⊎_elim
    (λ same. (omega arith, λ d. eqb-true x.entry n same))
    (λ other.
    let least : n ≤ x.entry = above (omega arith) x in
    let none = find_above n xs (λ k d lt. (let more = rising 0 (suc k) d (omega arith) (omega arith) in omega arith)) in
    absurd (false≢true (sym (ap is_some (cond-false (eqb x.entry n) (Some x) (find (λ (y : Mark). eqb y.entry n) xs) other ∙ none)) ∙ marked)))
    (cases_Bool (eqb x.entry n))
marked_at n (x ∷ xs) (suc i) rising marked before above =
    let less : x.entry < n = before zero x (omega arith) (omega arith) in
    let past = cond-false (eqb x.entry n) (Some x) (find (λ (y : Mark). eqb y.entry n) xs) (ne_eqb _ _ (λ same. omega arith)) in
    let rest = marked_at n xs i (λ k j d below within. rising (suc k) (suc j) d (omega arith) (omega arith)) (ap is_some (sym past) ∙ marked)
    (λ k d from to. before (suc k) d (omega arith) (omega arith)) (λ lt d. above (omega arith) d) in
    let within = rest.0 in
    (omega arith, λ d. rest.1 d)

-- what stands at a place of a list of marks
pub mark_at_place : (ms : List Mark) (i : ℕ) (x m : Mark) → i < length ms → x ≡ get_or ms i x → slice_get ms i ≡ Some m → x ≡ m
mark_at_place [] i x m lt is at = absurd (omega arith)
mark_at_place (y ∷ ys) zero x m lt is at = is ∙ same_Some y m at
mark_at_place (y ∷ ys) (suc i) x m lt is at = mark_at_place ys i x m (omega arith) is at
