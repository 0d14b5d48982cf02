-- Marks in rising order of the entries' numbers.
use Rattle.std.proofs.Common.{◌≡◌, ⊎_elim, subst, ℕ, zero, suc, ◌+◌, ◌<◌, ◌≤◌, List, [], ◌∷◌, true, length, get_or, Option, Some, None, ap, ◌∙◌, sym, refl, eqb, arith}
use Rattle.std.specs.Prelude.{◌≢◌, All, find, insert}
use Rattle.std.proofs.Math.ListN.{set}
use Rattle.std.proofs.lemmas.Bool.{cases_lt}
use Rattle.std.proofs.lemmas.List.{get_or_default}
use Rattle.std.proofs.lemmas.List.Elements.{All-cons, All-head, All-nil, All-tail}
use Rattle.std.proofs.lemmas.List.Kept.{AllPairs-cons}
use Rattle.std.specs.List.{AllPairs, AllWithin, HoldsAt}
use Rattle.std.specs.Prelude.{is_some}
use Rattle.space_txn.specs.declared.mark.Mark.{Mark}
use Rattle.space_txn.proofs.MarkLemmas.{marked_at}

-- each mark is on an entry of a lower number than those behind it
abbrev pub Rises : List Mark → Type 0
Rises ms = AllPairs (λ (m n : Mark). m.entry < n.entry) ms

head_rises : (x : Mark) (xs : List Mark) → Rises (x ∷ xs) → All (λ (y : Mark). x.entry < y.entry) xs
head_rises x xs h = λ k d lt. h 0 (suc k) d (omega arith) (omega arith)

tail_rises : (x : Mark) (xs : List Mark) → Rises (x ∷ xs) → Rises xs
tail_rises x xs h = λ i j d below within. h (suc i) (suc j) d (omega arith) (omega arith)

all_insert : (P : Mark → Type 0) (xs : List Mark) (i : ℕ) (m : Mark) → i ≤ length xs → All P xs → P m → All P (insert xs i m)
all_insert P [] zero m le all here = All-cons P m [] here (All-nil P)
all_insert P [] (suc i) m le all here = absurd (omega arith)
all_insert P (x ∷ xs) zero m le all here = All-cons P m (x ∷ xs) here all
all_insert P (x ∷ xs) (suc i) m le all here = All-cons P x (insert xs i m) (All-head P x xs all) (all_insert P xs i m (omega arith) (All-tail P x xs all) here)

all_set : (P : Mark → Type 0) (xs : List Mark) (i : ℕ) (m : Mark) → All P xs → P m → All P (set xs i m)
all_set P [] i m all here = all
all_set P (x ∷ xs) zero m all here = All-cons P m xs here (All-tail P x xs all)
all_set P (x ∷ xs) (suc i) m all here = All-cons P x (set xs i m) (All-head P x xs all) (all_set P xs i m (All-tail P x xs all) here)

-- a mark put between those on lower and on greater numbers
pub rises_insert : (m : Mark) (xs : List Mark) (i : ℕ) → i ≤ length xs → AllWithin (λ x. x.entry < m.entry) xs 0 i → (i < length xs → HoldsAt (λ x. m.entry < x.entry) xs i) → Rises xs → Rises (insert xs i m)
rises_insert m [] zero le before above rising = AllPairs-cons (λ (x y : Mark). x.entry < y.entry) m [] (All-nil (λ (y : Mark). m.entry < y.entry)) rising
rises_insert m [] (suc i) le before above rising = absurd (omega arith)
rises_insert m (x ∷ xs) zero le before above rising =
    let first : m.entry < x.entry = above (omega arith) x in
    AllPairs-cons (λ (x y : Mark). x.entry < y.entry) m (x ∷ xs)
    (All-cons (λ (y : Mark). m.entry < y.entry) x xs first (λ k d lt. let more = head_rises x xs rising k d lt in omega arith)) rising
rises_insert m (x ∷ xs) (suc i) le before above rising =
    AllPairs-cons (λ (x y : Mark). x.entry < y.entry) x (insert xs i m)
    (all_insert (λ (y : Mark). x.entry < y.entry) xs i m (omega arith) (head_rises x xs rising) (before zero x (omega arith) (omega arith)))
    (rises_insert m xs i (omega arith) (λ k d from to. before (suc k) d (omega arith) (omega arith)) (λ lt d. above (omega arith) d) (tail_rises x xs rising))

-- a mark written over another one on the same entry
pub rises_set : (m : Mark) (xs : List Mark) (i : ℕ) → i < length xs → HoldsAt (λ x. x.entry ≡ m.entry) xs i → Rises xs → Rises (set xs i m)
rises_set m [] i lt here rising = absurd (omega arith)
rises_set m (x ∷ xs) zero lt here rising =
    let same : x.entry ≡ m.entry = here x in
    AllPairs-cons (λ (x y : Mark). x.entry < y.entry) m xs (λ k d lt. let more = head_rises x xs rising k d lt in omega arith) (tail_rises x xs rising)
rises_set m (x ∷ xs) (suc i) lt here rising =
    let same : (get_or xs i m).entry ≡ m.entry = here m in
    let more : x.entry < (get_or xs i m).entry = head_rises x xs rising i m (omega arith) in
    AllPairs-cons (λ (x y : Mark). x.entry < y.entry) x (set xs i m)
    (all_set (λ (y : Mark). x.entry < y.entry) xs i m (head_rises x xs rising) (omega arith))
    (rises_set m xs i (omega arith) (λ d. here d) (tail_rises x xs rising))

-- all marks up to one on an entry below a number are below it
pub below_to : (n : ℕ) (ms : List Mark) (i : ℕ) (x : Mark) → Rises ms → i < length ms → x ≡ get_or ms i x → x.entry < n → AllWithin (λ m. m.entry < n) ms 0 (i + 1)
below_to n ms i x rising lt is less = λ k d from to.
    let at : (get_or ms i d).entry ≡ x.entry = ap (λ (m : Mark). m.entry) (get_or_default ms i d x lt ∙ sym is) in
    ⊎_elim
    (λ before. let more = rising k i d before lt in omega arith)
    (λ behind. let here : k ≡ i = omega arith in (let same : (get_or ms k d).entry ≡ (get_or ms i d).entry = ap (λ j. (get_or ms j d).entry) here in omega arith))
    (cases_lt k i)

-- a mark at a place is on an entry of this number or a greater one
pub above_at : (n : ℕ) (ms : List Mark) (i : ℕ) (x : Mark) → i < length ms → x ≡ get_or ms i x → n ≤ x.entry → HoldsAt (λ m. n ≤ m.entry) ms i
above_at n ms i x lt is le = λ d. subst (λ (m : Mark). n ≤ m.entry) (is ∙ get_or_default ms i x d lt) le

-- where the first mark on a number or a greater one isn't on that number, none is
pub unmarked_at : (n : ℕ) (ms : List Mark) (i : ℕ) → Rises ms → AllWithin (λ x. x.entry < n) ms 0 i → (i < length ms → HoldsAt (λ x. n ≤ x.entry) ms i) → (i < length ms → HoldsAt (λ x. x.entry ≢ n) ms i)
    → None ≡ find (λ (x : Mark). eqb x.entry n) ms
unmarked_at n ms i rising before at other = by (find (λ (x : Mark). eqb x.entry n) ms) refl
  where
    by : (o : Option Mark) → o ≡ find (λ (x : Mark). eqb x.entry n) ms → None ≡ o
    by None is = refl
    by (Some m) is = let here = marked_at n ms i rising (ap is_some (sym is)) before at in absurd (other here.0 m (here.1 m))
