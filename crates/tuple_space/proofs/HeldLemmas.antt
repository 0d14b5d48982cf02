-- Who holds which entries, by their numbers.
use Rattle.std.proofs.Common.{◌≡◌, ℕ, zero, suc, ◌+◌, ◌<◌, ◌≤◌, Bool, true, false, List, [], ◌∷◌, length, get_or, Some, refl, sym, ap, subst, ◌∙◌, cond, eqb, ⊎_elim, arith}
use Rattle.std.specs.Prelude.{◌≢◌, ◌||◌, ◌&&◌, not, All, filter, find, insert, map}
use Rattle.std.specs.List.{AllWithin, HoldsAt, list_any}
use Rattle.std.proofs.lemmas.Bool.{cases_Bool, cond-true, cond-false, cond_both, eq-eqb, eqb-false, eqb-true, false≢true, ne_eqb, or_cases, or_left, or_right}
use Rattle.std.proofs.lemmas.List.Elements.{All-cons, All-filter, All-head, All-nil, All-tail}
use Rattle.std.proofs.lemmas.List.Folds.{list_any-append, list_any_at}
use Rattle.std.proofs.lemmas.List.Kept.{AllPairs-cons}
use Rattle.std.proofs.lemmas.List.Sorted.{IsPermutation-insert, list_any-IsPermutation}
use Rattle.std.proofs.lemmas.Map.Views.{any-filter_same}
use Rattle.std.proofs.lemmas.Option.{same_Some}
use Rattle.tuple_match.specs.FieldValue.{FieldValue}
use Rattle.tuple_space.specs.Entry.{is_held, is_held_by, is_shared, is_taken_by, is_there, unheld}
use Rattle.tuple_space.specs.Held.{AreRising, HasHeld, HasHeldBy, holds_number, is_among, numbers_by, stays_noted}
use Rattle.tuple_space.specs.Holds.{holds_with, holds_without}
use Rattle.tuple_space.specs.Lease.{granted, is_live, is_permanent}
use Rattle.tuple_space.specs.Rows.{IsRising, changed, has_number, without}
use Rattle.tuple_space.specs.Space.{SpaceValue, held_by, put, released, stays_without, without_taken}
use Rattle.tuple_space.specs.Writes.{put_each}
use Rattle.tuple_space.specs.declared.entry.Entry.{Entry}
use Rattle.tuple_space.specs.declared.held.Held.{Held}
use Rattle.tuple_space.specs.declared.hold.Hold.{Hold}
use Rattle.tuple_space.specs.declared.lease.Lease.{Lease}
use Rattle.tuple_space.specs.declared.write.Write.{Write}
use Rattle.tuple_space.proofs.RowLemmas.{HasNone, any_none, number_none, passes_at, rising_head, rising_tail}

-- an entry that the holder holds has its number among these
abbrev pub IsNoted : ℕ → List ℕ → Entry → Type 0
IsNoted holder numbers e = is_held_by holder e ≡ true → is_among e.number numbers ≡ true

-- the first row is the holder's, or it isn't
pub numbers_mine : (holder : ℕ) (r : Held) (rs : List Held) → eqb r.by holder ≡ true → numbers_by holder (r ∷ rs) ≡ r.entry ∷ numbers_by holder rs
numbers_mine holder r rs mine = ap (map (λ (x : Held). x.entry)) (cond-true (eqb r.by holder) (r ∷ filter (λ (x : Held). eqb x.by holder) rs) (filter (λ (x : Held). eqb x.by holder) rs) mine)

-- the first row is not the holder's
pub numbers_other : (holder : ℕ) (r : Held) (rs : List Held) → eqb r.by holder ≡ false → numbers_by holder (r ∷ rs) ≡ numbers_by holder rs
numbers_other holder r rs other = ap (map (λ (x : Held). x.entry)) (cond-false (eqb r.by holder) (r ∷ filter (λ (x : Held). eqb x.by holder) rs) (filter (λ (x : Held). eqb x.by holder) rs) other)

-- what holds of a row's number and of those behind it
numbers_all : (P : ℕ → Type 0) (holder : ℕ) (r : Held) (rs : List Held) → (eqb r.by holder ≡ true → P r.entry) → All P (numbers_by holder rs) → All P (numbers_by holder (r ∷ rs))
numbers_all P holder r rs here rest = ⊎_elim
    (λ mine. subst (λ (l : List ℕ). All P l) (sym (numbers_mine holder r rs mine)) (All-cons P r.entry (numbers_by holder rs) (here mine) rest))
    (λ other. subst (λ (l : List ℕ). All P l) (sym (numbers_other holder r rs other)) rest)
    (cases_Bool (eqb r.by holder))

numbers_behind : (P : ℕ → Type 0) (holder : ℕ) (r : Held) (rs : List Held) → All P (numbers_by holder (r ∷ rs)) → (eqb r.by holder ≡ true → P r.entry) × All P (numbers_by holder rs)
numbers_behind P holder r rs all = ⊎_elim
    (λ mine. let l = subst (λ (l : List ℕ). All P l) (numbers_mine holder r rs mine) all in ((λ m. All-head P r.entry (numbers_by holder rs) l), All-tail P r.entry (numbers_by holder rs) l))
    (λ other. ((λ mine. absurd (false≢true (sym other ∙ mine))), subst (λ (l : List ℕ). All P l) (numbers_other holder r rs other) all))
    (cases_Bool (eqb r.by holder))

-- numbers that rise, the first row apart
rising_behind : (holder : ℕ) (r : Held) (rs : List Held) → AreRising (numbers_by holder (r ∷ rs)) → (eqb r.by holder ≡ true → All (λ n. r.entry < n) (numbers_by holder rs)) × AreRising (numbers_by holder rs)
rising_behind holder r rs h = ⊎_elim
    (λ mine.
    let l = subst AreRising (numbers_mine holder r rs mine) h in
    ((λ m. λ k d lt. l 0 (suc k) d (omega arith) (omega arith)), (λ i j d below within. l (suc i) (suc j) d (omega arith) (omega arith))))
    (λ other. ((λ mine. absurd (false≢true (sym other ∙ mine))), subst AreRising (numbers_other holder r rs other) h))
    (cases_Bool (eqb r.by holder))

rising_front : (holder : ℕ) (r : Held) (rs : List Held) → (eqb r.by holder ≡ true → All (λ n. r.entry < n) (numbers_by holder rs)) → AreRising (numbers_by holder rs) → AreRising (numbers_by holder (r ∷ rs))
rising_front holder r rs above rest = ⊎_elim
    (λ mine. subst AreRising (sym (numbers_mine holder r rs mine)) (AllPairs-cons (λ (x y : ℕ). x < y) r.entry (numbers_by holder rs) (above mine) rest))
    (λ other. subst AreRising (sym (numbers_other holder r rs other)) rest)
    (cases_Bool (eqb r.by holder))

all_inserted : (P : ℕ → Type 0) (holder : ℕ) (rs : List Held) (i : ℕ) (new : Held) → i ≤ length rs → (eqb new.by holder ≡ true → P new.entry) → All P (numbers_by holder rs) → All P (numbers_by holder (insert rs i new))
all_inserted P holder [] zero new within this all = numbers_all P holder new [] this all
all_inserted P holder [] (suc i) new within this all = absurd (omega arith)
all_inserted P holder (r ∷ rs) zero new within this all = numbers_all P holder new (r ∷ rs) this all
all_inserted P holder (r ∷ rs) (suc i) new within this all =
    let parts = numbers_behind P holder r rs all in
    numbers_all P holder r (insert rs i new) parts.0 (all_inserted P holder rs i new (omega arith) this parts.1)

-- a row put in its place: each holder's numbers rise as before
pub rising_inserted : (holder : ℕ) (rs : List Held) (i : ℕ) (new : Held) → AreRising (numbers_by holder rs) → i ≤ length rs
    → AllWithin (λ r. r.by ≡ new.by → r.entry < new.entry) rs 0 i → (i < length rs → HoldsAt (λ r. (r.by ≡ new.by) × (new.entry < r.entry)) rs i) → AreRising (numbers_by holder (insert rs i new))
rising_inserted holder [] zero new h within before at = rising_front holder new [] (λ m. All-nil (λ (n : ℕ). new.entry < n)) h
rising_inserted holder [] (suc i) new h within before at = absurd (omega arith)
rising_inserted holder (r ∷ rs) zero new h within before at =
    let here = at (omega arith) r in
    let less : new.entry < r.entry = here.1 in
    let parts = rising_behind holder r rs h in
    rising_front holder new (r ∷ rs)
    (λ mine. numbers_all (λ n. new.entry < n) holder r rs (λ m. less)
    (λ k d lt. (let above = parts.0 (subst (λ (b : ℕ). eqb b holder ≡ true) (sym here.0) mine) k d lt in omega arith)))
    h
rising_inserted holder (r ∷ rs) (suc i) new h within before at =
    let parts = rising_behind holder r rs h in
    rising_front holder r (insert rs i new)
    (λ mine. all_inserted (λ n. r.entry < n) holder rs i new (omega arith)
    (λ m. before 0 r (omega arith) (omega arith) (eqb-true r.by holder mine ∙ sym (eqb-true new.by holder m)))
    (parts.0 mine))
    (rising_inserted holder rs i new parts.1 (omega arith) (λ k d from to. before (suc k) d (omega arith) (omega arith)) (λ lt d. at (omega arith) d))

-- what is among a holder's numbers, by the rows
among_rows : (holder n : ℕ) (rs : List Held) → is_among n (numbers_by holder rs) ≡ list_any (λ (r : Held). eqb r.by holder && eqb n r.entry) rs
among_rows holder n [] = refl
among_rows holder n (r ∷ rs) = ⊎_elim
    (λ mine. ap (is_among n) (numbers_mine holder r rs mine) ∙ ap (λ b. eqb n r.entry || b) (among_rows holder n rs)
    ∙ sym (ap (λ b. (b && eqb n r.entry) || list_any (λ (x : Held). eqb x.by holder && eqb n x.entry) rs) mine))
    (λ other. ap (is_among n) (numbers_other holder r rs other) ∙ among_rows holder n rs
    ∙ sym (ap (λ b. (b && eqb n r.entry) || list_any (λ (x : Held). eqb x.by holder && eqb n x.entry) rs) other))
    (cases_Bool (eqb r.by holder))

-- what is among them after a row was put there
pub among_inserted : (rs : List Held) (i : ℕ) (new : Held) (holder n : ℕ)
    → is_among n (numbers_by holder (insert rs i new)) ≡ ((eqb new.by holder && eqb n new.entry) || is_among n (numbers_by holder rs))
among_inserted rs i new holder n =
    let test : Held → Bool = λ r. eqb r.by holder && eqb n r.entry in
    among_rows holder n (insert rs i new)
    ∙ sym (list_any-IsPermutation test (new ∷ rs) (insert rs i new) (IsPermutation-insert rs i new))
    ∙ ap (λ b. test new || b) (sym (among_rows holder n rs))

both : (a b : Bool) → a ≡ true → b ≡ true → (a && b) ≡ true
both a b p q = rw (p, q) refl

-- a row that stands there needs no second place
pub among_there : (rs : List Held) (i : ℕ) (new : Held) → i < length rs → HoldsAt (λ r. r.by ≡ new.by) rs i → HoldsAt (λ r. r.entry ≡ new.entry) rs i → (holder n : ℕ)
    → is_among n (numbers_by holder rs) ≡ ((eqb new.by holder && eqb n new.entry) || is_among n (numbers_by holder rs))
among_there rs i new lt by entry holder n =
    there (eqb new.by holder && eqb n new.entry) (is_among n (numbers_by holder rs))
    (λ same. among_rows holder n rs ∙ list_any_at (λ (x : Held). eqb x.by holder && eqb n x.entry) rs i new lt
    (ap (λ k. eqb k holder && eqb n (get_or rs i new).entry) (by new) ∙ ap (λ k. eqb new.by holder && eqb n k) (entry new) ∙ same))
  where
    there : (same among : Bool) → (same ≡ true → among ≡ true) → among ≡ (same || among)
    there true among h = h refl
    there false among h = refl

both_left : (a b : Bool) → (a && b) ≡ true → a ≡ true
both_left true b e = refl
both_left false b e = e

both_right : (a b : Bool) → (a && b) ≡ true → b ≡ true
both_right true b e = e
both_right false b e = absurd (false≢true e)

and_false : (a : Bool) → (a && false) ≡ false
and_false true = refl
and_false false = refl

or_false : (a : Bool) → (a || false) ≡ a
or_false true = refl
or_false false = refl

-- nobody holds an entry without holds
nobody : (holder : ℕ) (hs : List Hold) → list_any (λ (h : Hold). true) hs ≡ false → list_any (λ (h : Hold). eqb h.by holder) hs ≡ false
nobody holder [] none = refl
nobody holder (h ∷ hs) none = absurd (false≢true (sym none))

-- the number of an entry that a holder holds is among those that it holds
holds_at : (holder : ℕ) (es : List Entry) (i : ℕ) (d : Entry) → i < length es → is_held_by holder (get_or es i d) ≡ true → holds_number holder (get_or es i d).number es ≡ true
holds_at holder [] i d lt held = absurd (omega arith)
holds_at holder (e ∷ es) zero d lt held =
    or_left (eqb e.number e.number && is_held_by holder e) (holds_number holder e.number es) (both (eqb e.number e.number) (is_held_by holder e) (eq-eqb e.number e.number refl) held)
holds_at holder (e ∷ es) (suc i) d lt held =
    let n = (get_or es i d).number in
    or_right (eqb e.number n && is_held_by holder e) (holds_number holder n es) (holds_at holder es i d (omega arith) held)

-- the number of each entry that a holder holds is among those of the holder
pub held_each : (holder : ℕ) (numbers : List ℕ) (es : List Entry) → HasHeldBy holder numbers es → All (IsNoted holder numbers) es
held_each holder numbers es h = λ k d lt held. h.exact (get_or es k d).number ∙ holds_at holder es k d lt held

-- the rows that are kept
row_of : (holder n : ℕ) (r : Held) → (eqb r.by holder && eqb n r.entry) ≡ true → r ≡ record { entry = n; by = holder }
row_of holder n r mine =
    let by = eqb-true r.by holder (both_left (eqb r.by holder) (eqb n r.entry) mine) in
    let entry = eqb-true n r.entry (both_right (eqb r.by holder) (eqb n r.entry) mine) in
    ap (λ (b : ℕ). Held_of r.entry b) by ∙ ap (λ (e : ℕ). Held_of e holder) (sym entry)
  where
    Held_of : ℕ → ℕ → Held
    Held_of e b = record { entry = e; by = b }

among_kept : (keep : Held → Bool) (holder n : ℕ) (rs : List Held)
    → is_among n (numbers_by holder (filter keep rs)) ≡ (keep (record { entry = n; by = holder }) && is_among n (numbers_by holder rs))
among_kept keep holder n rs =
    let row : Held = record { entry = n; by = holder } in
    among_rows holder n (filter keep rs)
    ∙ any-filter_same (λ (r : Held). eqb r.by holder && eqb n r.entry) keep (keep row) (λ r mine. ap keep (row_of holder n r mine)) rs
    ∙ ap (λ b. keep row && b) (sym (among_rows holder n rs))

all_kept : (P : ℕ → Type 0) (keep : Held → Bool) (holder : ℕ) (rs : List Held) → All P (numbers_by holder rs) → All P (numbers_by holder (filter keep rs))
all_kept P keep holder [] all = all
all_kept P keep holder (r ∷ rs) all =
    let parts = numbers_behind P holder r rs all in
    let rest = all_kept P keep holder rs parts.1 in
    cond_both (keep r) (r ∷ filter keep rs) (filter keep rs) (λ (l : List Held). All P (numbers_by holder l)) (λ t. numbers_all P holder r (filter keep rs) parts.0 rest) (λ f. rest)

rising_kept : (keep : Held → Bool) (holder : ℕ) (rs : List Held) → AreRising (numbers_by holder rs) → AreRising (numbers_by holder (filter keep rs))
rising_kept keep holder [] rising = rising
rising_kept keep holder (r ∷ rs) rising =
    let parts = rising_behind holder r rs rising in
    let rest = rising_kept keep holder rs parts.1 in
    cond_both (keep r) (r ∷ filter keep rs) (filter keep rs) (λ (l : List Held). AreRising (numbers_by holder l))
    (λ t. rising_front holder r (filter keep rs) (λ mine. all_kept (λ n. r.entry < n) keep holder rs (parts.0 mine)) rest) (λ f. rest)

-- entries go, and with them the rows of those who held them
held_kept : (keep : Held → Bool) (rows : List Held) (old new : List Entry)
    → ((holder n : ℕ) → holds_number holder n new ≡ (keep (record { entry = n; by = holder }) && holds_number holder n old)) → HasHeld rows old → HasHeld (filter keep rows) new
held_kept keep rows old new same h = record {
  of = λ holder. record {
    rising = rising_kept keep holder rows (h.of holder).rising;
    exact = λ n. among_kept keep holder n rows ∙ ap (λ b. keep (record { entry = n; by = holder }) && b) ((h.of holder).exact n) ∙ sym (same holder n);
  };
}

-- entries go that nobody holds
pub held_filter : (test : Entry → Bool) (rows : List Held) (es : List Entry) → All (λ (e : Entry). test e ≡ false → (holder : ℕ) → is_held_by holder e ≡ false) es → HasHeld rows es
    → HasHeld rows (filter test es)
held_filter test rows es free h = record {
  of = λ holder. record {
    rising = (h.of holder).rising;
    exact = λ n. (h.of holder).exact n ∙ by holder n es free;
  };
}
  where
    by : (holder n : ℕ) (xs : List Entry) → All (λ (e : Entry). test e ≡ false → (holder : ℕ) → is_held_by holder e ≡ false) xs → holds_number holder n xs ≡ holds_number holder n (filter test xs)
    by holder n [] all = refl
    by holder n (x ∷ xs) all =
        let P : Entry → Type 0 = λ e. test e ≡ false → (holder : ℕ) → is_held_by holder e ≡ false in
        let rest = by holder n xs (All-tail P x xs all) in
        cond_both (test x) (x ∷ filter test xs) (filter test xs) (λ (l : List Entry). ((eqb x.number n && is_held_by holder x) || holds_number holder n xs) ≡ holds_number holder n l)
        (λ t. ap (λ b. (eqb x.number n && is_held_by holder x) || b) rest)
        (λ f. ap (λ b. (eqb x.number n && b) || holds_number holder n xs) (All-head P x xs all f holder) ∙ ap (λ b. b || holds_number holder n xs) (and_false (eqb x.number n)) ∙ rest)

-- an entry whose lease has ended, and that isn't held, is held by nobody
pub gone_free : (live held : Bool) → (live || held) ≡ false → held ≡ false
gone_free true held none = absurd (false≢true (sym none))
gone_free false held none = none

-- an entry that isn't there is held by nobody
pub there_free : (moment : ℕ) (es : List Entry) → All (λ (e : Entry). is_there moment e ≡ false → (holder : ℕ) → is_held_by holder e ≡ false) es
there_free moment es = λ k d lt gone holder. (let e = get_or es k d in nobody holder e.holds (gone_free (is_live moment e.end) (is_held e) gone))

-- the entry of a number, where it isn't held
pub found_free : (number : ℕ) (x : Entry) (es : List Entry) → IsRising es → Some x ≡ find (λ (e : Entry). eqb e.number number) es → is_held x ≡ false
    → All (λ (e : Entry). not (eqb e.number number) ≡ false → (holder : ℕ) → is_held_by holder e ≡ false) es
found_free number x [] rising found free = λ k d lt. absurd (omega arith)
found_free number x (e ∷ es) rising found free =
    let P : Entry → Type 0 = λ y. not (eqb y.number number) ≡ false → (holder : ℕ) → is_held_by holder y ≡ false in
    let rest = find (λ (y : Entry). eqb y.number number) es in
    let above = rising_head e es rising in
    ⊎_elim
    (λ same.
    let is : x ≡ e = same_Some x e (found ∙ cond-true (eqb e.number number) (Some e) rest same) in
    All-cons P e es (λ gone holder. nobody holder e.holds (ap is_held (sym is) ∙ free))
    (λ k d lt gone holder. (let less = above k d lt in let at = eqb-true e.number number same in let again = eqb-true (get_or es k d).number number (not_false (eqb (get_or es k d).number number) gone) in absurd (omega arith))))
    (λ other. All-cons P e es (λ gone holder. absurd (false≢true (sym other ∙ not_false (eqb e.number number) gone)))
    (found_free number x es (rising_tail e es rising) (found ∙ cond-false (eqb e.number number) (Some e) rest other) free))
    (cases_Bool (eqb e.number number))
  where
    not_false : (b : Bool) → not b ≡ false → b ≡ true
    not_false true h = refl
    not_false false h = absurd (false≢true (sym h))

-- the entry that is taken outside all holds is held by nobody
pub open_free : (claimed held matches : Bool) → ((claimed && not held) && matches) ≡ true → held ≡ false
open_free true true matches e = absurd (false≢true e)
open_free true false matches e = refl
open_free false held matches e = absurd (false≢true e)

-- entries change in other things than their numbers and who holds them
pub held_map : (change : Entry → Entry) → ((e : Entry) → (change e).number ≡ e.number) → ((holder : ℕ) (e : Entry) → is_held_by holder (change e) ≡ is_held_by holder e)
    → (rows : List Held) (es : List Entry) → HasHeld rows es → HasHeld rows (map change es)
held_map change keeps same rows es h = record {
  of = λ holder. record {
    rising = (h.of holder).rising;
    exact = λ n. (h.of holder).exact n ∙ by holder n es;
  };
}
  where
    by : (holder n : ℕ) (xs : List Entry) → holds_number holder n xs ≡ holds_number holder n (map change xs)
    by holder n [] = refl
    by holder n (x ∷ xs) =
        ap (λ b. (eqb x.number n && is_held_by holder x) || b) (by holder n xs)
        ∙ sym (ap (λ (m : ℕ). (eqb m n && is_held_by holder (change x)) || holds_number holder n (map change xs)) (keeps x)
        ∙ ap (λ b. (eqb x.number n && b) || holds_number holder n (map change xs)) (same holder x))

-- who holds an entry once a holder holds it
held_with : (holder : ℕ) (hold : Hold) (hs : List Hold) → list_any (λ (h : Hold). eqb h.by holder) (holds_with hold hs) ≡ (eqb hold.by holder || list_any (λ (h : Hold). eqb h.by holder) hs)
held_with holder hold [] = refl
held_with holder hold (h ∷ hs) =
    let any : List Hold → Bool = list_any (λ (x : Hold). eqb x.by holder) in
    cond_both (eqb h.by hold.by) (hold ∷ hs) (h ∷ holds_with hold hs) (λ (l : List Hold). any l ≡ (eqb hold.by holder || (eqb h.by holder || any hs)))
    (λ same. twice (eqb hold.by holder) (any hs) ∙ ap (λ (b : ℕ). eqb hold.by holder || (eqb b holder || any hs)) (sym (eqb-true h.by hold.by same)))
    (λ other. ap (λ b. eqb h.by holder || b) (held_with holder hold hs) ∙ moved (eqb h.by holder) (eqb hold.by holder) (any hs))
  where
    twice : (a b : Bool) → (a || b) ≡ (a || (a || b))
    twice true b = refl
    twice false b = refl

    moved : (a b c : Bool) → (a || (b || c)) ≡ (b || (a || c))
    moved true true c = refl
    moved true false c = refl
    moved false b c = refl

-- what a holder holds once one comes to hold the entry of a number
holds_pinned : (by : ℕ) (taken : Bool) (number holder n : ℕ) (es : List Entry)
    → holds_number holder n (changed number (held_by by taken) es) ≡ ((eqb by holder && (eqb n number && has_number number es)) || holds_number holder n es)
holds_pinned by taken number holder n [] = none (eqb by holder) (eqb n number)
  where
    none : (a b : Bool) → false ≡ ((a && (b && false)) || false)
    none true true = refl
    none true false = refl
    none false b = refl
holds_pinned by taken number holder n (e ∷ es) =
    let rest = holds_pinned by taken number holder n es in
    let there = has_number number es in
    let had = holds_number holder n es in
    ap (λ b. (eqb (cond (eqb e.number number) (held_by by taken e) e).number n && is_held_by holder (cond (eqb e.number number) (held_by by taken e) e)) || b) rest
    ∙ ⊎_elim
    (λ same.
    let at = eqb-true e.number number same in
    ap (λ (x : Entry). (eqb x.number n && is_held_by holder x) || ((eqb by holder && (eqb n number && there)) || had)) (cond-true (eqb e.number number) (held_by by taken e) e same)
    ∙ ap (λ b. (eqb e.number n && b) || ((eqb by holder && (eqb n number && there)) || had)) (held_with holder (record { by = by; taken = taken; permanent = is_permanent e.end }) e.holds)
    ∙ here (eqb by holder) (eqb e.number n) (eqb n number) (is_held_by holder e) there had (ap (λ (m : ℕ). eqb m n) at ∙ swap number n)
    ∙ sym (ap (λ b. (eqb by holder && (eqb n number && (b || there))) || ((eqb e.number n && is_held_by holder e) || had)) same))
    (λ other.
    ap (λ (x : Entry). (eqb x.number n && is_held_by holder x) || ((eqb by holder && (eqb n number && there)) || had)) (cond-false (eqb e.number number) (held_by by taken e) e other)
    ∙ moved (eqb e.number n && is_held_by holder e) (eqb by holder && (eqb n number && there)) had
    ∙ sym (ap (λ b. (eqb by holder && (eqb n number && (b || there))) || ((eqb e.number n && is_held_by holder e) || had)) other))
    (cases_Bool (eqb e.number number))
  where
    swap : (a b : ℕ) → eqb a b ≡ eqb b a
    swap a b = ⊎_elim
        (λ same. same ∙ sym (eq-eqb b a (sym (eqb-true a b same))))
        (λ other. other ∙ sym (ne_eqb b a (λ is. eqb-false a b other (sym is))))
        (cases_Bool (eqb a b))

    moved : (a b c : Bool) → (a || (b || c)) ≡ (b || (a || c))
    moved true true c = refl
    moved true false c = refl
    moved false b c = refl

    here : (y m t h a c : Bool) → m ≡ t → ((m && (y || h)) || ((y && (t && a)) || c)) ≡ ((y && (t && true)) || ((m && h) || c))
    here true true true h a c e = refl
    here true false false h a c e = refl
    here true true false h a c e = absurd (false≢true (sym e))
    here true false true h a c e = absurd (false≢true e)
    here false m t h a c e = refl

-- a holder comes to hold the entry of a number, which is put beside it
pub held_pinned : (by : ℕ) (taken : Bool) (number : ℕ) (old new : List Held) (es : List Entry) → has_number number es ≡ true → ((holder : ℕ) → AreRising (numbers_by holder new))
    → ((holder n : ℕ) → is_among n (numbers_by holder new) ≡ ((eqb by holder && eqb n number) || is_among n (numbers_by holder old))) → HasHeld old es
    → HasHeld new (changed number (held_by by taken) es)
held_pinned by taken number old new es there rising among h = record {
  of = λ holder. record {
    rising = rising holder;
    exact = λ n. among holder n ∙ ap (λ b. (eqb by holder && eqb n number) || b) ((h.of holder).exact n)
        ∙ sym (holds_pinned by taken number holder n es
        ∙ ap (λ b. (eqb by holder && (eqb n number && b)) || holds_number holder n es) there
        ∙ ap (λ b. (eqb by holder && b) || holds_number holder n es) (and_true (eqb n number)));
  };
}
  where
    and_true : (a : Bool) → (a && true) ≡ a
    and_true true = refl
    and_true false = refl

-- an entry that its holder holds already is held anew
pub held_again : (by : ℕ) (taken : Bool) (number : ℕ) (rows : List Held) (es : List Entry) → has_number number es ≡ true → holds_number by number es ≡ true → HasHeld rows es
    → HasHeld rows (changed number (held_by by taken) es)
held_again by taken number rows es there held h =
    held_pinned by taken number rows rows es there (λ holder. (h.of holder).rising)
    (λ holder n. same (eqb by holder) (eqb n number) (is_among n (numbers_by holder rows))
    (λ mine this. subst (λ (k : ℕ). is_among n (numbers_by k rows) ≡ true) (eqb-true by holder mine)
    (ap (λ k. is_among k (numbers_by by rows)) (eqb-true n number this) ∙ (h.of by).exact number ∙ held)))
    h
  where
    same : (mine this among : Bool) → (mine ≡ true → this ≡ true → among ≡ true) → among ≡ ((mine && this) || among)
    same true true among is = is refl refl
    same true false among is = refl
    same false this among is = refl

-- a tuple is put out, which nobody holds
pub held_put : (rows : List Held) (w : SpaceValue) (tuple : List FieldValue) (lease : Lease) → HasHeld rows w.entries → HasHeld rows (put w tuple lease).entries
held_put rows w tuple lease h = record {
  of = λ holder. record {
    rising = (h.of holder).rising;
    exact = λ n. (h.of holder).exact n ∙ sym (by holder n);
  };
}
  where
    by : (holder n : ℕ) → holds_number holder n (put w tuple lease).entries ≡ holds_number holder n w.entries
    by holder n =
        let new : Entry = record { number = w.last + 1; tuple = tuple; end = granted w.moment lease; holds = [] } in
        list_any-append (λ (e : Entry). eqb e.number n && is_held_by holder e) w.entries (new ∷ [])
        ∙ ap (λ b. holds_number holder n w.entries || (b || false)) (and_false (eqb (w.last + 1) n)) ∙ or_false (holds_number holder n w.entries)

-- the same for several writes
pub held_put_each : (rows : List Held) (w : SpaceValue) (writes : List Write) → HasHeld rows w.entries → HasHeld rows (put_each w writes).entries
held_put_each rows w [] h = h
held_put_each rows w (x ∷ xs) h =
    let P : SpaceValue → Type 0 = λ v. HasHeld rows (put_each v xs).entries in
    cond_both x.taken w (put w x.tuple x.lease) P
    (λ t. held_put_each rows w xs h)
    (λ f. held_put_each rows (put w x.tuple x.lease) xs (held_put rows w x.tuple x.lease h))

-- a holder lets go, and its rows are dropped
pub held_released : (gone moment : ℕ) (rows : List Held) (es : List Entry) → HasHeld rows es → HasHeld (filter (λ r. not (eqb r.by gone)) rows) (released gone moment es)
held_released gone moment rows es h = held_kept (λ r. not (eqb r.by gone)) rows es (released gone moment es) (λ holder n. by holder n es) h
  where
    left : (holder : ℕ) (hs : List Hold)
        → list_any (λ (x : Hold). eqb x.by holder) (holds_without gone hs) ≡ (not (eqb holder gone) && list_any (λ (x : Hold). eqb x.by holder) hs)
    left holder hs = any-filter_same (λ (x : Hold). eqb x.by holder) (λ (x : Hold). not (eqb x.by gone)) (not (eqb holder gone)) (λ x mine. ap (λ (b : ℕ). not (eqb b gone)) (eqb-true x.by holder mine)) hs

    spread : (k m y rest : Bool) → ((m && (k && y)) || (k && rest)) ≡ (k && ((m && y) || rest))
    spread true m y rest = refl
    spread false m y rest = or_false (m && false) ∙ and_false m

    none_left : (held live holds : Bool) → (not held || (live || holds)) ≡ false → holds ≡ false
    none_left true true holds e = absurd (false≢true (sym e))
    none_left true false holds e = e
    none_left false live holds e = absurd (false≢true (sym e))

    away : (k m y rest : Bool) → (k && y) ≡ false → (k && rest) ≡ (k && ((m && y) || rest))
    away true true y rest e = sym (ap (λ b. b || rest) e)
    away true false y rest e = refl
    away false m y rest e = refl

    by : (holder n : ℕ) (xs : List Entry) → holds_number holder n (released gone moment xs) ≡ (not (eqb holder gone) && holds_number holder n xs)
    by holder n [] = sym (and_false (not (eqb holder gone)))
    by holder n (x ∷ xs) =
        let rest = by holder n xs in
        let k = not (eqb holder gone) in
        let kept = filter (stays_without gone moment) xs in
        cond_both (stays_without gone moment x) (x ∷ kept) kept
        (λ (l : List Entry). holds_number holder n (map (unheld gone) l) ≡ (k && ((eqb x.number n && is_held_by holder x) || holds_number holder n xs)))
        (λ stays. ap (λ b. (eqb x.number n && b) || holds_number holder n (map (unheld gone) kept)) (left holder x.holds)
        ∙ ap (λ b. (eqb x.number n && (k && is_held_by holder x)) || b) rest ∙ spread k (eqb x.number n) (is_held_by holder x) (holds_number holder n xs))
        (λ leaves. rest ∙ away k (eqb x.number n) (is_held_by holder x) (holds_number holder n xs)
        (sym (left holder x.holds) ∙ nobody holder (holds_without gone x.holds)
        (none_left (is_held_by gone x) (is_live moment x.end) (list_any (λ (y : Hold). true) (holds_without gone x.holds)) leaves)))

-- the entry of a number goes, and with it its rows
pub held_without : (number : ℕ) (rows : List Held) (es : List Entry) → HasHeld rows es → HasHeld (filter (λ r. not (eqb r.entry number)) rows) (without number es)
held_without number rows es h = held_kept (λ r. not (eqb r.entry number)) rows es (without number es)
    (λ holder n. any-filter_same (λ (e : Entry). eqb e.number n && is_held_by holder e) (λ (e : Entry). not (eqb e.number number)) (not (eqb n number))
    (λ e mine. ap (λ (m : ℕ). not (eqb m number)) (eqb-true e.number n (both_left (eqb e.number n) (is_held_by holder e) mine))) es)
    h

-- no entry of a number is among those that a test keeps
none_kept : (n : ℕ) (test : Entry → Bool) (es : List Entry) → HasNone n es → HasNone n (filter test es)
none_kept n test es none = All-filter test (λ (e : Entry). e.number ≢ n) es none

none_held : (holder n : ℕ) (es : List Entry) → HasNone n es → holds_number holder n es ≡ false
none_held holder n es none = any_none n (is_held_by holder) es none

-- somebody besides holds what a holder took
besides : (gone holder : ℕ) (hs : List Hold) → eqb holder gone ≡ false → list_any (λ (h : Hold). eqb h.by holder) hs ≡ true → list_any (λ (h : Hold). not (eqb h.by gone)) hs ≡ true
besides gone holder [] other held = held
besides gone holder (h ∷ hs) other held = ⊎_elim
    (λ mine. or_left (not (eqb h.by gone)) _ (ap (λ (b : ℕ). not (eqb b gone)) (eqb-true h.by holder mine) ∙ ap not other))
    (λ rest. or_right (not (eqb h.by gone)) _ (besides gone holder hs other rest))
    (or_cases (eqb h.by holder) (list_any (λ (x : Hold). eqb x.by holder) hs) held)

-- the entries that a holder took go, and with them the rows of those who held them
pub held_taken : (gone : ℕ) (all : Bool) (rows : List Held) (es : List Entry) → IsRising es → (all ≡ false → All (λ (e : Entry). is_shared gone e ≡ false) es) → HasHeld rows es
    → HasHeld (filter (stays_noted gone all (without_taken gone es)) rows) (without_taken gone es)
held_taken gone all rows es rising free h = held_kept (stays_noted gone all (without_taken gone es)) rows es (without_taken gone es) (λ holder n. by holder n es rising free) h
  where
    own : (taken other held : Bool) → (other ≡ true → taken ≡ true → held ≡ false) → cond (not taken) (held || false) false ≡ ((other || cond (not taken) true false) && (held || false))
    own true true held none = sym (or_false held ∙ none refl refl)
    own true false held none = refl
    own false true held none = refl
    own false false held none = refl

    here : (holder n : ℕ) (x : Entry) → is_shared gone x ≡ false → eqb holder gone ≡ false → is_taken_by gone x ≡ true → is_held_by holder x ≡ false
    here holder n x none other taken = ⊎_elim
        (λ held. absurd (false≢true (sym none ∙ both (is_taken_by gone x) _ taken (besides gone holder x.holds other held))))
        (λ not_held. not_held)
        (cases_Bool (is_held_by holder x))

    not_true : (b : Bool) → not b ≡ true → b ≡ false
    not_true true e = absurd (false≢true e)
    not_true false e = refl

    by : (holder n : ℕ) (xs : List Entry) → IsRising xs → (all ≡ false → All (λ (e : Entry). is_shared gone e ≡ false) xs)
        → holds_number holder n (without_taken gone xs) ≡ (((not all && not (eqb holder gone)) || has_number n (without_taken gone xs)) && holds_number holder n xs)
    by holder n [] up none = sym (and_false ((not all && not (eqb holder gone)) || false))
    by holder n (x ∷ xs) up none =
        let P : Entry → Type 0 = λ e. is_shared gone e ≡ false in
        let kept = without_taken gone xs in
        let other = not all && not (eqb holder gone) in
        let rest = by holder n xs (rising_tail x xs up) (λ f. All-tail P x xs (none f)) in
        let above = rising_head x xs up in
        let stays = not (is_taken_by gone x) in
        let hx = is_held_by holder x in
        let hk = holds_number holder n kept in
        let hxs = holds_number holder n xs in
        let has = has_number n kept in
        let split_has = one_has (λ (e : Entry). eqb e.number n) x kept stays in
        let split_held = one_has (λ (e : Entry). eqb e.number n && is_held_by holder e) x kept stays in
        ⊎_elim
        (λ same.
        let behind : HasNone n xs = λ k d lt is. (let less = above k d lt in let at = eqb-true x.number n same in omega arith) in
        let gone_has = number_none n kept (none_kept n (λ (e : Entry). not (is_taken_by gone e)) xs behind) in
        let gone_held = none_held holder n kept (none_kept n (λ (e : Entry). not (is_taken_by gone e)) xs behind) in
        split_held ∙ ap (λ b. cond stays ((b && hx) || hk) hk) same ∙ ap (λ b. cond stays (hx || b) b) gone_held
        ∙ own (is_taken_by gone x) other hx
        (λ mine taken. here holder n x (All-head P x xs (none (not_true all (both_left (not all) (not (eqb holder gone)) mine)))) (not_true (eqb holder gone) (both_right (not all) (not (eqb holder gone)) mine)) taken)
        ∙ sym (ap (λ b. (other || b) && ((eqb x.number n && hx) || hxs)) (split_has ∙ ap (λ b. cond stays (b || has) has) same ∙ ap (λ b. cond stays true b) gone_has)
        ∙ ap (λ b. (other || cond stays true false) && ((b && hx) || hxs)) same
        ∙ ap (λ b. (other || cond stays true false) && (hx || b)) (none_held holder n xs behind)))
        (λ differs.
        split_held ∙ ap (λ b. cond stays ((b && hx) || hk) hk) differs ∙ pick stays hk ∙ rest
        ∙ sym (ap (λ b. (other || b) && ((eqb x.number n && hx) || hxs)) (split_has ∙ ap (λ b. cond stays (b || has) has) differs ∙ pick stays has)
        ∙ ap (λ b. (other || has) && ((b && hx) || hxs)) differs))
        (cases_Bool (eqb x.number n))
      where
        one_has : (p : Entry → Bool) (x : Entry) (l : List Entry) (stays : Bool) → list_any p (cond stays (x ∷ l) l) ≡ cond stays (p x || list_any p l) (list_any p l)
        one_has p x l true = refl
        one_has p x l false = refl

        pick : (stays b : Bool) → cond stays b b ≡ b
        pick true b = refl
        pick false b = refl

-- rows tell whether somebody else holds what their holder took
all_of : (P : ℕ → Type 0) (holder : ℕ) (rs : List Held) → All (λ (r : Held). r.by ≡ holder → P r.entry) rs → All P (numbers_by holder rs)
all_of P holder [] h = All-nil P
all_of P holder (r ∷ rs) h =
    let Q : Held → Type 0 = λ r. r.by ≡ holder → P r.entry in
    numbers_all P holder r rs (λ mine. All-head Q r rs h (eqb-true r.by holder mine)) (all_of P holder rs (All-tail Q r rs h))

of_among : (P : ℕ → Type 0) (ns : List ℕ) (n : ℕ) → All P ns → is_among n ns ≡ true → P n
of_among P [] n h among = absurd (false≢true among)
of_among P (x ∷ xs) n h among = ⊎_elim
    (λ same. subst P (sym (eqb-true n x same)) (All-head P x xs h))
    (λ rest. of_among P xs n (All-tail P x xs h) rest)
    (or_cases (eqb n x) (is_among n xs) among)

taken_held : (holder : ℕ) (hs : List Hold) → list_any (λ (h : Hold). eqb h.by holder && h.taken) hs ≡ true → list_any (λ (h : Hold). eqb h.by holder) hs ≡ true
taken_held holder [] taken = taken
taken_held holder (h ∷ hs) taken = ⊎_elim
    (λ here. or_left (eqb h.by holder) _ (both_left (eqb h.by holder) h.taken here))
    (λ rest. or_right (eqb h.by holder) _ (taken_held holder hs rest))
    (or_cases (eqb h.by holder && h.taken) (list_any (λ (x : Hold). eqb x.by holder && x.taken) hs) taken)

shared_at : (holder : ℕ) (es : List Entry) (i : ℕ) (d : Entry) → i < length es → is_shared holder (get_or es i d) ≡ true → passes_at (get_or es i d).number (is_shared holder) es ≡ true
shared_at holder [] i d lt shared = absurd (omega arith)
shared_at holder (e ∷ es) zero d lt shared =
    or_left (eqb e.number e.number && is_shared holder e) (passes_at e.number (is_shared holder) es) (both (eqb e.number e.number) (is_shared holder e) (eq-eqb e.number e.number refl) shared)
shared_at holder (e ∷ es) (suc i) d lt shared =
    let n = (get_or es i d).number in
    or_right (eqb e.number n && is_shared holder e) (passes_at n (is_shared holder) es) (shared_at holder es i d (omega arith) shared)

-- where none of a holder's rows is of an entry that it shares, it shares none
pub none_shared : (holder : ℕ) (rows : List Held) (es : List Entry) → HasHeld rows es → All (λ (r : Held). r.by ≡ holder → passes_at r.entry (is_shared holder) es ≡ false) rows
    → All (λ (e : Entry). is_shared holder e ≡ false) es
none_shared holder rows es h none = λ k d lt.
    let e = get_or es k d in
    ⊎_elim
    (λ shared.
    let held = taken_held holder e.holds (both_left (is_taken_by holder e) _ shared) in
    let among = (h.of holder).exact e.number ∙ holds_at holder es k d lt held in
    let not_shared = of_among (λ n. passes_at n (is_shared holder) es ≡ false) (numbers_by holder rows) e.number (all_of (λ n. passes_at n (is_shared holder) es ≡ false) holder rows none) among in
    absurd (false≢true (sym not_shared ∙ shared_at holder es k d lt shared)))
    (λ other. other)
    (cases_Bool (is_shared holder e))
