-- What an exchange does to a permutation, and to what it costs.
use Rattle.std.proofs.Common.{◌≡◌, ◌≢◌, ℕ, ◌<◌, cond, List, length, get_or, set, sym, ◌∙◌, ap, ap₂, arith, nat_eq, inl, inr, get_or-set_same, get_or-set_other}
use Rattle.std.specs.Prelude.{ℤ, ◌+ℤ◌, ◌-ℤ◌, ◌*ℤ◌}
use Rattle.std.proofs.Math.ListN.{length-set}
use Rattle.std.proofs.lemmas.Grind.{same_number_lists}
use Rattle.std.proofs.lemmas.Int.{ints}
use Rattle.std.proofs.lemmas.Bool.{cond-true, cond-false, ne_eqb, eq-eqb, cases_eq}
use Rattle.qap_cost.specs.Sum.{sum_to}
use Rattle.qap_cost.specs.Instance.{Problem, entry}
use Rattle.qap_cost.specs.Objective.{Permutes, pair_cost, cost_of}
use Rattle.qap_improve.specs.Difference.{flow, distance, change_with, change_between}
use Rattle.qap_improve.specs.Exchange.{exchanging, partner}
use Rattle.qap_improve.proofs.DoubleSums.{among, crossed_products, double_sum-changed, with_both}

-- an exchange keeps the number of facilities
pub length-exchanging : (p : List ℕ) (r s : ℕ) → length (exchanging p r s) ≡ length p
length-exchanging p r s =
    length-set (set p r (get_or p s 0)) s (get_or p r 0) ∙ length-set p r (get_or p s 0)

-- after the exchange facility r stands where facility s stood
pub exchanging-first : (p : List ℕ) (r s : ℕ) → r ≢ s → r < length p → get_or (exchanging p r s) r 0 ≡ get_or p s 0
exchanging-first p r s apart hr =
    get_or-set_other (set p r (get_or p s 0)) s r (get_or p r 0) 0 apart ∙ get_or-set_same p r (get_or p s 0) 0 hr

-- after the exchange facility s stands where facility r stood
pub exchanging-second : (p : List ℕ) (r s : ℕ) → s < length p → get_or (exchanging p r s) s 0 ≡ get_or p r 0
exchanging-second p r s hs =
    get_or-set_same (set p r (get_or p s 0)) s (get_or p r 0) 0 (omega (arith, length-set p r (get_or p s 0)))

-- each other facility stands where it stood
pub exchanging-other : (p : List ℕ) (r s k : ℕ) → k ≢ r → k ≢ s → get_or (exchanging p r s) k 0 ≡ get_or p k 0
exchanging-other p r s k kr ks =
    get_or-set_other (set p r (get_or p s 0)) s k (get_or p r 0) 0 ks ∙ get_or-set_other p r k (get_or p s 0) 0 kr

-- facility r takes the location of facility s
pub partner-first : (r s k : ℕ) → k ≡ r → partner r s k ≡ s
partner-first r s k e = cond-true (nat_eq k r) s (cond (nat_eq k s) r k) (eq-eqb k r e)

-- facility s takes the location of facility r
pub partner-second : (r s k : ℕ) → k ≢ r → k ≡ s → partner r s k ≡ r
partner-second r s k n e =
    cond-false (nat_eq k r) s (cond (nat_eq k s) r k) (ne_eqb k r n) ∙ cond-true (nat_eq k s) r k (eq-eqb k s e)

-- each other facility keeps its location
pub partner-other : (r s k : ℕ) → k ≢ r → k ≢ s → partner r s k ≡ k
partner-other r s k n m =
    cond-false (nat_eq k r) s (cond (nat_eq k s) r k) (ne_eqb k r n) ∙ cond-false (nat_eq k s) r k (ne_eqb k s m)

-- the partner's partner is the facility itself
pub partner-twice : (r s k : ℕ) → r ≢ s → partner r s (partner r s k) ≡ k
partner-twice r s k apart =
    elim (cases_eq k r) [
      | inl e ↦ ap (partner r s) (partner-first r s k e) ∙ partner-second r s s (λ h. apart (sym h)) (λ i. s) ∙ sym e
      | inr n ↦ elim (cases_eq k s) [
        | inl e ↦ ap (partner r s) (partner-second r s k n e) ∙ partner-first r s r (λ i. r) ∙ sym e
        | inr m ↦ ap (partner r s) (partner-other r s k n m) ∙ partner-other r s k n m
      ]
    ]

-- the partner of one of n facilities is one of them
pub partner-below : (r s k n : ℕ) → r < n → s < n → k < n → partner r s k < n
partner-below r s k n hr hs hk =
    elim (cases_eq k r) [
      | inl e ↦ let is = partner-first r s k e in omega arith
      | inr a ↦ elim (cases_eq k s) [
        | inl e ↦ let is = partner-second r s k a e in omega arith
        | inr b ↦ let is = partner-other r s k a b in omega arith
      ]
    ]

-- after the exchange each facility stands where its partner stood
pub exchanging-at : (p : List ℕ) (r s k : ℕ) → r ≢ s → r < length p → s < length p → get_or (exchanging p r s) k 0 ≡ get_or p (partner r s k) 0
exchanging-at p r s k apart hr hs =
    elim (cases_eq k r) [
      | inl e ↦ ap (λ x. get_or (exchanging p r s) x 0) e ∙ exchanging-first p r s apart hr ∙ ap (λ x. get_or p x 0) (sym (partner-first r s k e))
      | inr a ↦ elim (cases_eq k s) [
        | inl e ↦ ap (λ x. get_or (exchanging p r s) x 0) e ∙ exchanging-second p r s hs ∙ ap (λ x. get_or p x 0) (sym (partner-second r s k a e))
        | inr b ↦ exchanging-other p r s k a b ∙ ap (λ x. get_or p x 0) (sym (partner-other r s k a b))
      ]
    ]

-- an exchange made twice is none
pub exchanging-twice : (p : List ℕ) (r s : ℕ) → r ≢ s → r < length p → s < length p → exchanging (exchanging p r s) r s ≡ p
exchanging-twice p r s apart hr hs =
    let q = exchanging p r s in
    let long = length-exchanging p r s in
    same_number_lists (exchanging q r s) p (length-exchanging q r s ∙ long) (λ k below.
    exchanging-at q r s k apart (omega arith) (omega arith)
    ∙ exchanging-at p r s (partner r s k) apart hr hs
    ∙ ap (λ i. get_or p i 0) (partner-twice r s k apart))

-- an exchange keeps a permutation
pub Permutes-exchanging : (I : Problem) (p : List ℕ) (r s : ℕ) → r ≢ s → r < I.size → s < I.size → Permutes I p → Permutes I (exchanging p r s)
Permutes-exchanging I p r s apart hr hs h =
    let long = length-exchanging p r s in
    let size = h.same_size in
    let first : r < length p = omega arith in
    let second : s < length p = omega arith in
    record {
      bijection = record {
        within = λ k below.
            let is = exchanging-at p r s k apart first second in
            let place : partner r s k < length p = partner-below r s k (length p) first second (omega arith) in
            let bound = h.bijection.within (partner r s k) place in
            omega arith;
        distinct = λ i j hi hj e.
            sym (partner-twice r s i apart)
            ∙ ap (partner r s) (h.bijection.distinct (partner r s i) (partner r s j)
            (partner-below r s i (length p) first second (omega arith)) (partner-below r s j (length p) first second (omega arith))
            (sym (exchanging-at p r s i apart first second) ∙ e ∙ exchanging-at p r s j apart first second))
            ∙ partner-twice r s j apart;
      };
      same_size = long ∙ size;
    }

regrouped : (x m y n : ℤ) → (x +ℤ m) +ℤ (y +ℤ n) ≡ (x +ℤ y) +ℤ (m +ℤ n)
regrouped x m y n = omega (arith, ints)

-- what an exchange changes the cost by
pub cost_of-exchanging : (I : Problem) (p : List ℕ) (r s : ℕ) → r ≢ s → r < I.size → s < I.size → length p ≡ I.size
    → cost_of I p +ℤ (((sum_to (change_with I p r s) I.size -ℤ change_with I p r s r) -ℤ change_with I p r s s) +ℤ change_between I p r s) ≡ cost_of I (exchanging p r s)
cost_of-exchanging I p r s apart hr hs size =
    let q = exchanging p r s in
    let there : (i j k l : ℕ) → get_or q i 0 ≡ k → get_or q j 0 ≡ l → pair_cost I q i j ≡ flow I i j *ℤ entry I.size I.b k l =
    λ i j k l row column. ap₂ (λ x y. flow I i j *ℤ entry I.size I.b x y) row column in
    let first = exchanging-first p r s apart (omega arith) in
    let second = exchanging-second p r s (omega arith) in
    let d = distance I p in
    let cross : (k : ℕ) → k ≢ r → k ≢ s → with_both (pair_cost I q) r s k ≡ with_both (pair_cost I p) r s k +ℤ change_with I p r s k =
    λ k kr ks.
    let other = exchanging-other p r s k kr ks in
    ap₂ ◌+ℤ◌
    (ap₂ ◌+ℤ◌ (there k r _ _ other first) (there k s _ _ other second) ∙ crossed_products (flow I k r) (flow I k s) (d k s) (d k r))
    (ap₂ ◌+ℤ◌ (there r k _ _ first other) (there s k _ _ second other) ∙ crossed_products (flow I r k) (flow I s k) (d s k) (d r k))
    ∙ regrouped (pair_cost I p k r +ℤ pair_cost I p k s) ((flow I k r -ℤ flow I k s) *ℤ (d k s -ℤ d k r))
    (pair_cost I p r k +ℤ pair_cost I p s k) ((flow I r k -ℤ flow I s k) *ℤ (d s k -ℤ d r k)) in
    let corner : among (pair_cost I q) r s ≡ among (pair_cost I p) r s +ℤ change_between I p r s =
    ap₂ ◌+ℤ◌
    (ap₂ ◌+ℤ◌ (there r r _ _ first first) (there s s _ _ second second) ∙ crossed_products (flow I r r) (flow I s s) (d s s) (d r r))
    (ap₂ ◌+ℤ◌ (there r s _ _ first second) (there s r _ _ second first) ∙ crossed_products (flow I r s) (flow I s r) (d s r) (d r s))
    ∙ regrouped (pair_cost I p r r +ℤ pair_cost I p s s) ((flow I r r -ℤ flow I s s) *ℤ (d s s -ℤ d r r))
    (pair_cost I p r s +ℤ pair_cost I p s r) ((flow I r s -ℤ flow I s r) *ℤ (d s r -ℤ d r s)) in
    double_sum-changed (pair_cost I p) (pair_cost I q) (change_with I p r s) (change_between I p r s) r s I.size apart hr hs
    (λ i j ir is jr js. sym (there i j _ _ (exchanging-other p r s i ir is) (exchanging-other p r s j jr js))) cross corner
