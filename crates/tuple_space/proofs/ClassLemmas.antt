-- How many entries have tuples of a class: as many as numbers stand under it.
use Rattle.std.proofs.Common.{◌≡◌, ℕ, suc, ◌+◌, ◌<◌, Bool, true, false, List, [], ◌∷◌, length, refl, sym, ap, ◌∙◌, cond, eqb, ⊎_elim, arith}
use Rattle.std.specs.Prelude.{◌&&◌, ◌||◌, All, count_by}
use Rattle.std.proofs.lemmas.Bool.{cases_Bool, eq-eqb, eqb-false, eqb-true, false≢true, ne_eqb, or_cases}
use Rattle.std.proofs.lemmas.List.Elements.{All-head, All-tail}
use Rattle.std.proofs.lemmas.List.Sums.{sum_by-cons}
use Rattle.tuple_space.specs.Held.{AreRising, is_among}
use Rattle.tuple_space.specs.Index.{AreIndexed, Class, has_class, is_numbered, numbers_of}
use Rattle.tuple_space.specs.Rows.{IsRising}
use Rattle.tuple_space.specs.declared.entry.Entry.{Entry}
use Rattle.tuple_space.specs.declared.index.Bucket.{Bucket}
use Rattle.tuple_space.proofs.RowLemmas.{rising_head, rising_tail}

and_no : (a : Bool) → (a && false) ≡ false
and_no true = refl
and_no false = refl

and_left : (a b : Bool) → (a && b) ≡ true → a ≡ true
and_left true b h = refl
and_left false b h = h

-- numbers that are all above one
among_above : (low n : ℕ) (ns : List ℕ) → All (λ m. low < m) ns → is_among n ns ≡ true → low < n
among_above low n [] above found = absurd (false≢true found)
among_above low n (m ∷ ms) above found =
    let P : ℕ → Type 0 = λ k. low < k in
    ⊎_elim
    (λ here. let same = eqb-true n m here in let more : low < m = All-head P m ms above in omega (arith, same, more))
    (λ there. among_above low n ms (All-tail P m ms above) there)
    (or_cases (eqb n m) (is_among n ms) found)

numbered_above : (class : Class) (low n : ℕ) (es : List Entry) → All (λ (e : Entry). low < e.number) es → is_numbered class n es ≡ true → low < n
numbered_above class low n [] above found = absurd (false≢true found)
numbered_above class low n (e ∷ es) above found =
    let P : Entry → Type 0 = λ x. low < x.number in
    ⊎_elim
    (λ here. let same = eqb-true e.number n (and_left (eqb e.number n) (has_class class e.tuple) here) in let more : low < e.number = All-head P e es above in omega (arith, same, more))
    (λ there. numbered_above class low n es (All-tail P e es above) there)
    (or_cases (eqb e.number n && has_class class e.tuple) (is_numbered class n es) found)

not_true : (b : Bool) → (b ≡ true → ⊥) → b ≡ false
not_true b none = ⊎_elim (λ is. absurd (none is)) (λ other. other) (cases_Bool b)

rising_rest : (m : ℕ) (ms : List ℕ) → AreRising (m ∷ ms) → AreRising ms
rising_rest m ms h = λ i j d below within. h (suc i) (suc j) d (omega arith) (omega arith)

rising_above : (m : ℕ) (ms : List ℕ) → AreRising (m ∷ ms) → All (λ k. m < k) ms
rising_above m ms h = λ k d lt. h 0 (suc k) d (omega arith) (omega arith)

-- an entry whose tuple is of another class makes no difference
passed_over : (class : Class) (n : ℕ) (e : Entry) (es : List Entry) → has_class class e.tuple ≡ false → is_numbered class n (e ∷ es) ≡ is_numbered class n es
passed_over class n e es other = ap (λ b. (eqb e.number n && b) || is_numbered class n es) other ∙ ap (λ b. b || is_numbered class n es) (and_no (eqb e.number n))

-- nor does one of another number
numbered_behind : (class : Class) (n : ℕ) (e : Entry) (es : List Entry) → eqb e.number n ≡ false → is_numbered class n (e ∷ es) ≡ is_numbered class n es
numbered_behind class n e es other = ap (λ b. (b && has_class class e.tuple) || is_numbered class n es) other

numbered_here : (class : Class) (e : Entry) (es : List Entry) → has_class class e.tuple ≡ true → is_numbered class e.number (e ∷ es) ≡ true
numbered_here class e es mine =
    ap (λ b. (eqb e.number e.number && b) || is_numbered class e.number es) mine
    ∙ ap (λ b. (b && true) || is_numbered class e.number es) (eq-eqb e.number e.number refl)

-- the first of such numbers is that of the first entry of the class
first_is : (class : Class) (e : Entry) (es : List Entry) (m : ℕ) (ms : List ℕ) → All (λ k. m < k) ms → All (λ (x : Entry). e.number < x.number) es → ((n : ℕ) → is_among n (m ∷ ms) ≡ is_numbered class n (e ∷ es)) → has_class class e.tuple ≡ true → e.number ≡ m
first_is class e es m ms above behind same mine =
    ⊎_elim
    (λ here. eqb-true e.number m here)
    (λ there.
    let more : m < e.number = among_above m e.number ms above there in
    ⊎_elim
    (λ here. eqb-true e.number m (and_left (eqb e.number m) (has_class class e.tuple) here))
    (λ later. let less : e.number < m = numbered_above class e.number m es behind later in absurd (omega (arith, more, less)))
    (or_cases (eqb e.number m && has_class class e.tuple) (is_numbered class m es) (sym (same m) ∙ ap (λ b. b || is_among m ms) (eq-eqb m m refl))))
    (or_cases (eqb e.number m) (is_among e.number ms) (same e.number ∙ numbered_here class e es mine))

-- and the others are those behind it
rest_same : (class : Class) (e : Entry) (es : List Entry) (n m : ℕ) (ms : List ℕ) → All (λ k. m < k) ms → All (λ (x : Entry). e.number < x.number) es → ((n : ℕ) → is_among n (m ∷ ms) ≡ is_numbered class n (e ∷ es)) → e.number ≡ m → is_among n ms ≡ is_numbered class n es
rest_same class e es n m ms above behind same first =
    ⊎_elim
    (λ is.
    let at : n ≡ m = eqb-true n m is in
    not_true (is_among n ms) (λ found. let more : m < n = among_above m n ms above found in omega (arith, at, more))
    ∙ sym (not_true (is_numbered class n es) (λ found. let more : e.number < n = numbered_above class e.number n es behind found in omega (arith, at, first, more))))
    (λ other.
    sym (ap (λ b. b || is_among n ms) other) ∙ same n
    ∙ numbered_behind class n e es (ne_eqb e.number n (λ at. eqb-false n m other (sym at ∙ first))))
    (cases_Bool (eqb n m))

abbrev AreAsMany : Class → List Entry → Type 0
AreAsMany class es = (ns : List ℕ) → AreRising ns → ((n : ℕ) → is_among n ns ≡ is_numbered class n es) → length ns ≡ count_by (λ (e : Entry). has_class class e.tuple) es

as_many_behind : (class : Class) (e : Entry) (es : List Entry) → IsRising (e ∷ es) → AreAsMany class es → has_class class e.tuple ≡ true → (ns : List ℕ) → AreRising ns → ((n : ℕ) → is_among n ns ≡ is_numbered class n (e ∷ es)) → length ns ≡ 1 + count_by (λ (x : Entry). has_class class x.tuple) es
as_many_behind class e es up rest mine [] rising same = absurd (false≢true (same e.number ∙ numbered_here class e es mine))
as_many_behind class e es up rest mine (m ∷ ms) rising same =
    let above = rising_above m ms rising in
    let behind = rising_head e es up in
    let first : e.number ≡ m = first_is class e es m ms above behind same mine in
    let others = rest ms (rising_rest m ms rising) (λ n. rest_same class e es n m ms above behind same first) in
    omega (arith, others)

-- numbers that rise and are those of the entries of a class are as many as these
as_many : (class : Class) (es : List Entry) → IsRising es → AreAsMany class es
as_many class [] up [] rising same = refl
as_many class [] up (m ∷ ms) rising same = absurd (false≢true (sym (same m) ∙ ap (λ b. b || is_among m ms) (eq-eqb m m refl)))
as_many class (e ∷ es) up ns rising same =
    let rest = as_many class es (rising_tail e es up) in
    let parts = sum_by-cons (λ (x : Entry). cond (has_class class x.tuple) 1 0) e es in
    let whole = λ (is : Bool) (h : has_class class e.tuple ≡ is). parts ∙ ap (λ b. cond b 1 0 + count_by (λ (x : Entry). has_class class x.tuple) es) h in
    ⊎_elim
    (λ mine. (let with = whole true mine in let these = as_many_behind class e es up rest mine ns rising same in omega (arith, with, these)))
    (λ other. (let with = whole false other in let these = rest ns rising (λ n. same n ∙ passed_over class n e es other) in omega (arith, with, these)))
    (cases_Bool (has_class class e.tuple))

-- under a class stand as many numbers as there are entries whose tuples are of it
pub class_counted : (class : Class) (buckets : List Bucket) (entries : List Entry) → AreIndexed buckets entries → IsRising entries → length (numbers_of class buckets) ≡ count_by (λ (e : Entry). has_class class e.tuple) entries
class_counted class buckets entries indexed up = as_many class entries up (numbers_of class buckets) (indexed.rising class) (indexed.exact class)
