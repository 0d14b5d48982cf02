-- Live transactions in rising order of number.
use Rattle.std.proofs.Common.{◌≡◌, Bool, true, false, ℕ, zero, suc, ◌<◌, ◌≤◌, List, [], ◌∷◌, length, get_or, slice_get, Some, ap, ◌∙◌, sym, subst, refl, cond, eqb, ltb, ⊎_elim, arith}
use Rattle.std.specs.Prelude.{◌≢◌, ◌&&◌, ◌||◌, not, max, All, filter, remove}
use Rattle.std.specs.List.{AllPairs, HoldsAt, list_any}
use Rattle.std.proofs.Math.ListN.{set}
use Rattle.std.proofs.lemmas.Bool.{and_from, and_parts, cond-true, cond-false, cond_both, eq-eqb, false≢true, lt-ltb, ltb-true, ne_eqb, or_cases, or_from, or_left, or_right}
use Rattle.std.proofs.lemmas.List.Elements.{All-cons, All-head, All-tail}
use Rattle.std.proofs.lemmas.List.Kept.{AllPairs-cons}
use Rattle.std.proofs.lemmas.Option.{none-some, same_Some}
use Rattle.space_txn.specs.Live.{is_live_in, others, renewed_row, renewed_rows}
use Rattle.space_txn.specs.declared.live.Live.{Live}

-- the numbers rise
abbrev pub AreRising : List Live → Type 0
AreRising ts = AllPairs (λ (t : Live) (u : Live). t.number < u.number) ts

-- no transaction has the number
abbrev pub HasNone : ℕ → List Live → Type 0
HasNone n ts = All (λ (t : Live). t.number ≢ n) ts

-- the transaction at a place has it
abbrev pub IsAt : ℕ → List Live → ℕ → Type 0
IsAt n ts i = HoldsAt (λ (t : Live). t.number ≡ n) ts i

rising_head : (t : Live) (ts : List Live) → AreRising (t ∷ ts) → All (λ (u : Live). t.number < u.number) ts
rising_head t ts h = λ k d lt. h 0 (suc k) d (omega arith) (omega arith)

rising_tail : (t : Live) (ts : List Live) → AreRising (t ∷ ts) → AreRising ts
rising_tail t ts h = λ i j d less lt. h (suc i) (suc j) d (omega arith) (omega arith)

apart : (n : ℕ) (t : Live) (ts : List Live) → AreRising (t ∷ ts) → t.number ≡ n → HasNone n ts
apart n t ts h same = λ k d lt e. (let less = rising_head t ts h k d lt in omega arith)

differs : (n : ℕ) (t : Live) (ts : List Live) (i : ℕ) → AreRising (t ∷ ts) → i < length ts → IsAt n ts i → t.number ≢ n
differs n t ts i h lt at = λ e. (let less = rising_head t ts h i t lt in let same = at t in omega arith)

-- the other transactions
others_none : (n : ℕ) (ts : List Live) → HasNone n ts → others n ts ≡ ts
others_none n [] h = refl
others_none n (t ∷ ts) h =
    let P : Live → Type 0 = λ u. u.number ≢ n in
    cond-true (not (eqb t.number n)) (t ∷ others n ts) (others n ts) (ap not (ne_eqb _ _ (All-head P t ts h)))
    ∙ ap (λ l. t ∷ l) (others_none n ts (All-tail P t ts h))

-- the transaction of a number removed from its place: the others are left
pub others_at : (n : ℕ) (ts : List Live) (i : ℕ) → AreRising ts → i < length ts → IsAt n ts i → remove ts i ≡ others n ts
others_at n [] i h lt at = absurd (omega arith)
others_at n (t ∷ ts) zero h lt at =
    sym (cond-false (not (eqb t.number n)) (t ∷ others n ts) (others n ts) (ap not (eq-eqb _ _ (at t))) ∙ others_none n ts (apart n t ts h (at t)))
others_at n (t ∷ ts) (suc i) h lt at =
    ap (λ l. t ∷ l) (others_at n ts i (rising_tail t ts h) (omega arith) (λ d. at d))
    ∙ sym (cond-true (not (eqb t.number n)) (t ∷ others n ts) (others n ts) (ap not (ne_eqb _ _ (differs n t ts i h (omega arith) (λ d. at d)))))

-- where no transaction has the number, all are others
pub others_missing : (n : ℕ) (ts : List Live) → HasNone n ts → ts ≡ others n ts
others_missing n ts h = sym (others_none n ts h)

-- whether a transaction is live
or_none : (b : Bool) → (b || false) ≡ b
or_none true = refl
or_none false = refl

-- where no transaction has the number, none is live under it
pub live_none : (moment n : ℕ) (ts : List Live) → HasNone n ts → is_live_in moment n ts ≡ false
live_none moment n [] h = refl
live_none moment n (t ∷ ts) h =
    let P : Live → Type 0 = λ u. u.number ≢ n in
    or_from (eqb t.number n && ltb moment t.end) (is_live_in moment n ts) (ap (λ b. b && ltb moment t.end) (ne_eqb _ _ (All-head P t ts h)))
    (live_none moment n ts (All-tail P t ts h))

-- a transaction of the number is live if and only if the one at its place hasn't ended
pub live_at : (moment n : ℕ) (ts : List Live) (i : ℕ) (d : Live) → AreRising ts → i < length ts → IsAt n ts i → ltb moment (get_or ts i d).end ≡ is_live_in moment n ts
live_at moment n [] i d h lt at = absurd (omega arith)
live_at moment n (t ∷ ts) zero d h lt at =
    sym (ap (λ b. (b && ltb moment t.end) || is_live_in moment n ts) (eq-eqb _ _ (at t))
    ∙ ap (λ b. ltb moment t.end || b) (live_none moment n ts (apart n t ts h (at t))) ∙ or_none (ltb moment t.end))
live_at moment n (t ∷ ts) (suc i) d h lt at =
    live_at moment n ts i d (rising_tail t ts h) (omega arith) (λ e. at e)
    ∙ sym (ap (λ b. (b && ltb moment t.end) || is_live_in moment n ts) (ne_eqb _ _ (differs n t ts i h (omega arith) (λ e. at e))))

-- transactions with one of them renewed
renewed_none : (n end : ℕ) (ts : List Live) → HasNone n ts → renewed_rows n end ts ≡ ts
renewed_none n end [] h = refl
renewed_none n end (t ∷ ts) h =
    let P : Live → Type 0 = λ u. u.number ≢ n in
    ap (λ u. u ∷ renewed_rows n end ts) (cond-false (eqb t.number n) _ t (ne_eqb _ _ (All-head P t ts h)))
    ∙ ap (λ l. t ∷ l) (renewed_none n end ts (All-tail P t ts h))

-- where no transaction has the number, its renewal changes nothing
pub renewed_missing : (n end : ℕ) (ts : List Live) → HasNone n ts → ts ≡ renewed_rows n end ts
renewed_missing n end ts h = sym (renewed_none n end ts h)

-- the transaction at the place of the number renewed there: that is its renewal
pub renewed_at : (n end : ℕ) (ts : List Live) (i : ℕ) (d : Live) → AreRising ts → i < length ts → IsAt n ts i → set ts i (renewed_row n end (get_or ts i d)) ≡ renewed_rows n end ts
renewed_at n end [] i d h lt at = absurd (omega arith)
renewed_at n end (t ∷ ts) zero d h lt at = ap (λ l. renewed_row n end t ∷ l) (sym (renewed_none n end ts (apart n t ts h (at t))))
renewed_at n end (t ∷ ts) (suc i) d h lt at =
    ap (λ l. t ∷ l) (renewed_at n end ts i d (rising_tail t ts h) (omega arith) (λ e. at e))
    ∙ ap (λ u. u ∷ renewed_rows n end ts) (sym (cond-false (eqb t.number n) _ t (ne_eqb _ _ (differs n t ts i h (omega arith) (λ e. at e)))))

-- what stands at a place
pub here : (ts : List Live) (i : ℕ) (t : Live) → slice_get ts i ≡ Some t → t ≡ get_or ts i t
here [] i t is = absurd (none-some t is)
here (u ∷ us) zero t is = sym (same_Some u t is)
here (u ∷ us) (suc i) t is = here us i t is

-- a renewal leaves a transaction's number
pub number_stays : (n end : ℕ) (t : Live) → (renewed_row n end t).number ≡ t.number
number_stays n end t = by (eqb t.number n)
  where
    by : (b : Bool) → (cond b (record t { end = max t.end end }) t).number ≡ t.number
    by true = refl
    by false = refl

-- a renewed transaction ends no earlier
end_later : (n end : ℕ) (t : Live) → t.end ≤ (renewed_row n end t).end
end_later n end t = cond_both (eqb t.number n) (record t { end = max t.end end }) t (λ (u : Live). t.end ≤ u.end) (λ is. omega arith) (λ other. omega arith)

-- a live transaction stays live where one of them is renewed
pub live_renewed : (moment number n end : ℕ) (ts : List Live) → is_live_in moment number ts ≡ true → is_live_in moment number (renewed_rows n end ts) ≡ true
live_renewed moment number n end [] e = e
live_renewed moment number n end (t ∷ ts) e =
    let u = renewed_row n end t in
    let rest = renewed_rows n end ts in
    ⊎_elim
    (λ here.
    let parts = and_parts (eqb t.number number) (ltb moment t.end) here in
    let before : moment < t.end = ltb-true moment t.end parts.1 in
    let later = end_later n end t in
    let same : eqb u.number number ≡ true = ap (λ k. eqb k number) (number_stays n end t) ∙ parts.0 in
    or_left (eqb u.number number && ltb moment u.end) (is_live_in moment number rest) (and_from _ _ same (lt-ltb moment u.end (omega arith))))
    (λ behind. or_right (eqb u.number number && ltb moment u.end) (is_live_in moment number rest) (live_renewed moment number n end ts behind))
    (or_cases (eqb t.number number && ltb moment t.end) (is_live_in moment number ts) e)

-- what holds of all numbers holds after a renewal
pub all_renewed : (P : ℕ → Type 0) (n end : ℕ) (ts : List Live) → All (λ (t : Live). P t.number) ts → All (λ (t : Live). P t.number) (renewed_rows n end ts)
all_renewed P n end [] h = h
all_renewed P n end (t ∷ ts) h =
    let Q : Live → Type 0 = λ u. P u.number in
    All-cons Q (renewed_row n end t) (renewed_rows n end ts) (subst P (sym (number_stays n end t)) (All-head Q t ts h)) (all_renewed P n end ts (All-tail Q t ts h))

-- the numbers still rise after a renewal
pub rising_renewed : (n end : ℕ) (ts : List Live) → AreRising ts → AreRising (renewed_rows n end ts)
rising_renewed n end [] h = h
rising_renewed n end (t ∷ ts) h =
    AllPairs-cons (λ (t : Live) (u : Live). t.number < u.number) (renewed_row n end t) (renewed_rows n end ts)
    (all_renewed (λ k. (renewed_row n end t).number < k) n end ts (subst (λ k. All (λ (u : Live). k < u.number) ts) (sym (number_stays n end t)) (rising_head t ts h)))
    (rising_renewed n end ts (rising_tail t ts h))

-- where none has ended all stay
pub going_all : (p : Live → Bool) (ts : List Live) → list_any (λ t. not (p t)) ts ≡ false → ts ≡ filter p ts
going_all p [] none = refl
going_all p (t ∷ ts) none = by (p t) none (going_all p ts)
  where
    by : (b : Bool) → (not b || list_any (λ u. not (p u)) ts) ≡ false → (list_any (λ u. not (p u)) ts ≡ false → ts ≡ filter p ts) → t ∷ ts ≡ cond b (t ∷ filter p ts) (filter p ts)
    by true is rest = ap (λ l. t ∷ l) (rest is)
    by false is rest = absurd (false≢true (sym is))
