-- Numbers in ascending order, of which one is removed, and those that are left behind numbers removed from the front.
use Rattle.std.proofs.Common.{◌≡◌, ℕ, zero, suc, ◌+◌, ◌<◌, ◌≤◌, List, [], ◌∷◌, length, get_or, refl, sym, ap, ◌∙◌, drop, eqb, ⊎_elim, arith}
use Rattle.std.specs.Prelude.{◌≢◌, All, filter, not, remove}
use Rattle.std.proofs.lemmas.Bool.{cases_lt, cond-false, cond-true, eq-eqb, ne_eqb}
use Rattle.std.proofs.lemmas.List.{get_or_default}
use Rattle.std.proofs.lemmas.List.Elements.{All-head, All-tail}
use Rattle.tuple_space.specs.Held.{AreRising}

-- a number of numbers that rise is taken out at its place, or it is none of them
filter_above : (n : ℕ) (ns : List ℕ) → All (λ m. m ≢ n) ns → filter (λ m. not (eqb m n)) ns ≡ ns
filter_above n [] h = refl
filter_above n (m ∷ ns) h =
    let P : ℕ → Type 0 = λ k. k ≢ n in
    cond-true (not (eqb m n)) (m ∷ filter (λ k. not (eqb k n)) ns) (filter (λ k. not (eqb k n)) ns) (ap not (ne_eqb m n (All-head P m ns h)))
    ∙ ap (λ l. m ∷ l) (filter_above n ns (All-tail P m ns h))

-- of rising numbers, taking out the one at a place takes out that number and no other
pub number_removed : (ns : List ℕ) (i n : ℕ) → AreRising ns → i < length ns → get_or ns i 0 ≡ n → remove ns i ≡ filter (λ m. not (eqb m n)) ns
number_removed [] i n rising lt is = absurd (omega arith)
number_removed (m ∷ ns) zero n rising lt is =
    sym (cond-false (not (eqb m n)) (m ∷ filter (λ k. not (eqb k n)) ns) (filter (λ k. not (eqb k n)) ns) (ap not (eq-eqb m n is))
    ∙ filter_above n ns (λ k d within same. (let less = rising 0 (suc k) d (omega arith) (omega arith) in omega arith)))
number_removed (m ∷ ns) (suc i) n rising lt is =
    let less : m < get_or ns i 0 = rising 0 (suc i) 0 (omega arith) (omega arith) in
    let rest : get_or ns i 0 ≡ n = is in
    ap (λ l. m ∷ l) (number_removed ns i n (λ j k d below within. rising (suc j) (suc k) d (omega arith) (omega arith)) (omega arith) is)
    ∙ sym (cond-true (not (eqb m n)) (m ∷ filter (λ k. not (eqb k n)) ns) (filter (λ k. not (eqb k n)) ns) (ap not (ne_eqb m n (λ same. omega arith))))

-- where the numbers before a place are below one and the others above it, there is none to take out
pub number_absent : (ns : List ℕ) (n i : ℕ) → ((k : ℕ) → k < i → get_or ns k 0 < n) → ((k : ℕ) → i ≤ k → k < length ns → n < get_or ns k 0) → ns ≡ filter (λ m. not (eqb m n)) ns
number_absent ns n i below above = sym (filter_above n ns (λ k d lt same.
    let at : get_or ns k d ≡ get_or ns k 0 = get_or_default ns k d 0 lt in
    ⊎_elim
    (λ before. let less = below k before in absurd (omega arith))
    (λ after. let more = above k (omega arith) lt in absurd (omega arith))
    (cases_lt k i)))

-- of rising numbers, none is above one at a later place
pub rises_at : (ns : List ℕ) → AreRising ns → (i j : ℕ) → i ≤ j → j < length ns → get_or ns i 0 ≤ get_or ns j 0
rises_at ns rising i j le lt = ⊎_elim
    (λ less. let more = rising i j 0 less lt in omega arith)
    (λ same. let at : i ≡ j = omega arith in (let equal = ap (λ k. get_or ns k 0) at in omega arith))
    (cases_lt i j)

none_removed : (place : ℕ) → remove {X = ℕ} [] place ≡ []
none_removed zero = refl
none_removed (suc place) = refl

-- the first of them is removed
pub first_removed : (ns : List ℕ) (gone : ℕ) → gone < length ns → drop (gone + 1) ns ≡ remove (drop gone ns) 0
first_removed ns gone lt = (let next : gone + 1 ≡ suc gone = omega arith in ap (λ n. drop n ns) next) ∙ by ns gone lt
  where
    by : (ns : List ℕ) (gone : ℕ) → gone < length ns → drop (suc gone) ns ≡ remove (drop gone ns) 0
    by [] gone lt = absurd (omega arith)
    by (n ∷ ns) zero lt = refl
    by (n ∷ ns) (suc gone) lt = by ns gone (omega arith)

-- or another
pub later_removed : (ns : List ℕ) (gone i place : ℕ) → place ≡ gone + i → drop gone (remove ns place) ≡ remove (drop gone ns) i
later_removed ns zero i place is = (let same : place ≡ i = omega (arith, is) in ap (remove ns) same)
later_removed [] (suc gone) i place is = ap (drop (suc gone)) (none_removed place) ∙ sym (none_removed i)
later_removed (n ∷ ns) (suc gone) i zero is = absurd (omega (arith, is))
later_removed (n ∷ ns) (suc gone) i (suc place) is = later_removed ns gone i place (omega (arith, is))
