-- Double sums of which the terms of two rows and two columns differ.
use Rattle.std.proofs.Common.{◌≡◌, ◌≢◌, ℕ, ◌<◌, cond, sym, ◌∙◌, ap, ap₂, arith, nat_eq, inl, inr}
use Rattle.std.specs.Prelude.{ℤ, pos, ◌+ℤ◌, ◌-ℤ◌, ◌*ℤ◌}
use Rattle.std.proofs.lemmas.Int.{ints}
use Rattle.std.proofs.lemmas.Bool.{cond-true, cond-false, ne_eqb, eq-eqb, cases_eq}
use Rattle.std.proofs.Math.IntN.{*ℤ_comm}
use Rattle.qap_cost.specs.Sum.{sum_to}
use Rattle.qap_cost.proofs.Sums.{*ℤ-+ℤ, sum_to-same, sum_to-add, only_at, sum_to-only_at}

-- the terms but those at r and s
abbrev pub outside : ℕ → ℕ → (ℕ → ℤ) → ℕ → ℤ
outside r s f k = cond (nat_eq k r) (pos 0) (cond (nat_eq k s) (pos 0) (f k))

outside-first : (r s : ℕ) (f : ℕ → ℤ) (k : ℕ) → k ≡ r → outside r s f k ≡ pos 0
outside-first r s f k e = cond-true (nat_eq k r) (pos 0) (cond (nat_eq k s) (pos 0) (f k)) (eq-eqb k r e)

outside-second : (r s : ℕ) (f : ℕ → ℤ) (k : ℕ) → k ≢ r → k ≡ s → outside r s f k ≡ pos 0
outside-second r s f k n e =
    cond-false (nat_eq k r) (pos 0) (cond (nat_eq k s) (pos 0) (f k)) (ne_eqb k r n)
    ∙ cond-true (nat_eq k s) (pos 0) (f k) (eq-eqb k s e)

outside-other : (r s : ℕ) (f : ℕ → ℤ) (k : ℕ) → k ≢ r → k ≢ s → outside r s f k ≡ f k
outside-other r s f k n m =
    cond-false (nat_eq k r) (pos 0) (cond (nat_eq k s) (pos 0) (f k)) (ne_eqb k r n)
    ∙ cond-false (nat_eq k s) (pos 0) (f k) (ne_eqb k s m)

only_at-there : (f : ℕ → ℤ) (r k : ℕ) → k ≡ r → only_at f r k ≡ f k
only_at-there f r k e = cond-true (nat_eq k r) (f k) (pos 0) (eq-eqb k r e)

only_at-elsewhere : (f : ℕ → ℤ) (r k : ℕ) → k ≢ r → only_at f r k ≡ pos 0
only_at-elsewhere f r k n = cond-false (nat_eq k r) (f k) (pos 0) (ne_eqb k r n)

added_up : (x a b c : ℤ) → (a ≡ pos 0) → (b ≡ x) → (c ≡ pos 0) → x ≡ (a +ℤ b) +ℤ c
added_up x a b c e f g = omega (arith, ints)

-- a term is one of those outside, that at r or that at s
one_of_three : (f : ℕ → ℤ) (r s k : ℕ) → r ≢ s → f k ≡ (outside r s f k +ℤ only_at f r k) +ℤ only_at f s k
one_of_three f r s k apart =
    elim (cases_eq k r) [
      | inl e ↦
          let other : k ≢ s = λ h. apart (sym e ∙ h) in
          let a = outside-first r s f k e in
          let b = only_at-there f r k e in
          let c = only_at-elsewhere f s k other in
          omega (arith, ints)
      | inr n ↦ elim (cases_eq k s) [
        | inl e ↦
            let a = outside-second r s f k n e in
            let b = only_at-elsewhere f r k n in
            let c = only_at-there f s k e in
            omega (arith, ints)
        | inr m ↦
            let a = outside-other r s f k n m in
            let b = only_at-elsewhere f r k n in
            let c = only_at-elsewhere f s k m in
            omega (arith, ints)
      ]
    ]

-- a sum with its terms at r and s apart
pub sum_to-apart : (f : ℕ → ℤ) (r s n : ℕ) → r ≢ s → r < n → s < n → sum_to f n ≡ (sum_to (outside r s f) n +ℤ f r) +ℤ f s
sum_to-apart f r s n apart hr hs =
    sum_to-same f (λ k. (outside r s f k +ℤ only_at f r k) +ℤ only_at f s k) n (λ k h. one_of_three f r s k apart)
    ∙ sum_to-add (λ k. outside r s f k +ℤ only_at f r k) (only_at f s) n
    ∙ ap₂ ◌+ℤ◌ (sum_to-add (outside r s f) (only_at f r) n) (sum_to-only_at f s n hs)
    ∙ ap (λ x. (sum_to (outside r s f) n +ℤ x) +ℤ f s) (sum_to-only_at f r n hr)

-- the terms outside, where they are equal
pub outside-same : (r s : ℕ) (f g : ℕ → ℤ) (k : ℕ) → (k ≢ r → k ≢ s → f k ≡ g k) → outside r s f k ≡ outside r s g k
outside-same r s f g k same =
    elim (cases_eq k r) [
      | inl e ↦ outside-first r s f k e ∙ sym (outside-first r s g k e)
      | inr n ↦ elim (cases_eq k s) [
        | inl e ↦ outside-second r s f k n e ∙ sym (outside-second r s g k n e)
        | inr m ↦ outside-other r s f k n m ∙ same n m ∙ sym (outside-other r s g k n m)
      ]
    ]

-- the terms outside, added
outside-add : (r s : ℕ) (f g : ℕ → ℤ) (k : ℕ) → outside r s (λ i. f i +ℤ g i) k ≡ outside r s f k +ℤ outside r s g k
outside-add r s f g k =
    elim (cases_eq k r) [
      | inl e ↦
          let a = outside-first r s (λ i. f i +ℤ g i) k e in
          let b = outside-first r s f k e in
          let c = outside-first r s g k e in
          omega (arith, ints)
      | inr n ↦ elim (cases_eq k s) [
        | inl e ↦
            let a = outside-second r s (λ i. f i +ℤ g i) k n e in
            let b = outside-second r s f k n e in
            let c = outside-second r s g k n e in
            omega (arith, ints)
        | inr m ↦
            let a = outside-other r s (λ i. f i +ℤ g i) k n m in
            let b = outside-other r s f k n m in
            let c = outside-other r s g k n m in
            omega (arith, ints)
      ]
    ]

-- the sum, but for places r and s, of sums is the sum of both
pub sum_to-outside_add : (r s : ℕ) (f g : ℕ → ℤ) (n : ℕ) → sum_to (outside r s (λ i. f i +ℤ g i)) n ≡ sum_to (outside r s f) n +ℤ sum_to (outside r s g) n
sum_to-outside_add r s f g n =
    sum_to-same (outside r s (λ i. f i +ℤ g i)) (λ k. outside r s f k +ℤ outside r s g k) n (λ k h. outside-add r s f g k)
    ∙ sum_to-add (outside r s f) (outside r s g) n

-- what k has with both, in either order
abbrev pub with_both : (ℕ → ℕ → ℤ) → ℕ → ℕ → ℕ → ℤ
with_both f r s k = (f k r +ℤ f k s) +ℤ (f r k +ℤ f s k)

-- what both have with themselves and each other
abbrev pub among : (ℕ → ℕ → ℤ) → ℕ → ℕ → ℤ
among f r s = (f r r +ℤ f s s) +ℤ (f r s +ℤ f s r)

-- what the others have among themselves
abbrev pub among_others : (ℕ → ℕ → ℤ) → ℕ → ℕ → ℕ → ℤ
among_others f r s n = sum_to (outside r s (λ i. sum_to (outside r s (f i)) n)) n

parts_add : (t o e a b p q fr fs rr rs sr ss : ℤ) → t ≡ (o +ℤ p) +ℤ q → o ≡ e +ℤ a → p ≡ (fr +ℤ rr) +ℤ rs → q ≡ (fs +ℤ sr) +ℤ ss → b ≡ fr +ℤ fs → t ≡ (e +ℤ (a +ℤ b)) +ℤ ((rr +ℤ ss) +ℤ (rs +ℤ sr))
parts_add t o e a b p q fr fs rr rs sr ss h i j k l = omega (arith, ints)

-- a double sum in three parts: the others among themselves, the others with the two, and the two
pub double_sum-parts : (f : ℕ → ℕ → ℤ) (r s n : ℕ) → r ≢ s → r < n → s < n
    → sum_to (λ i. sum_to (f i) n) n ≡ (among_others f r s n +ℤ sum_to (outside r s (with_both f r s)) n) +ℤ among f r s
double_sum-parts f r s n apart hr hs =
    let row : ℕ → ℤ = λ i. sum_to (f i) n in
    let inner : ℕ → ℤ = λ i. sum_to (outside r s (f i)) n in
    let columns : ℕ → ℤ = λ i. f i r +ℤ f i s in
    let split : (i : ℕ) → row i ≡ inner i +ℤ columns i =
    λ i. let h = sum_to-apart (f i) r s n apart hr hs in omega (arith, ints) in
    let others : sum_to (outside r s row) n ≡ among_others f r s n +ℤ sum_to (outside r s columns) n =
    sum_to-same (outside r s row) (outside r s (λ i. inner i +ℤ columns i)) n (λ k h. outside-same r s row (λ i. inner i +ℤ columns i) k (λ a b. split k))
    ∙ sum_to-outside_add r s inner columns n in
    let both : sum_to (outside r s (with_both f r s)) n ≡ sum_to (outside r s columns) n +ℤ sum_to (outside r s (λ k. f r k +ℤ f s k)) n =
    sum_to-outside_add r s columns (λ k. f r k +ℤ f s k) n in
    parts_add _ _ _ _ _ _ _ (sum_to (outside r s (f r)) n) (sum_to (outside r s (f s)) n) (f r r) (f r s) (f s r) (f s s) (sum_to-apart row r s n apart hr hs) others (sum_to-apart (f r) r s n apart hr hs) (sum_to-apart (f s) r s n apart hr hs)
    (sum_to-outside_add r s (f r) (f s) n)
    ∙ ap (λ x. (among_others f r s n +ℤ x) +ℤ among f r s) (sym both)

changed : (f g o ef eg t tr ts cf cg c total : ℤ) → f ≡ (o +ℤ ef) +ℤ cf → g ≡ (o +ℤ eg) +ℤ cg → eg ≡ ef +ℤ t → total ≡ (t +ℤ tr) +ℤ ts → cg ≡ cf +ℤ c → f +ℤ (((total -ℤ tr) -ℤ ts) +ℤ c) ≡ g
changed f g o ef eg t tr ts cf cg c total h i j k l = omega (arith, ints)

-- a double sum whose terms change with r or s alone: what it changes by is the sum of the changes with each other one, and the change among the two
pub double_sum-changed : (f g : ℕ → ℕ → ℤ) (t : ℕ → ℤ) (c : ℤ) (r s n : ℕ) → r ≢ s → r < n → s < n
    → ((i j : ℕ) → i ≢ r → i ≢ s → j ≢ r → j ≢ s → f i j ≡ g i j)
    → ((k : ℕ) → k ≢ r → k ≢ s → with_both g r s k ≡ with_both f r s k +ℤ t k)
    → among g r s ≡ among f r s +ℤ c
    → sum_to (λ i. sum_to (f i) n) n +ℤ (((sum_to t n -ℤ t r) -ℤ t s) +ℤ c) ≡ sum_to (λ i. sum_to (g i) n) n
double_sum-changed f g t c r s n apart hr hs same cross corner =
    let inner : (h : ℕ → ℕ → ℤ) → ℕ → ℤ = λ h i. sum_to (outside r s (h i)) n in
    let others : among_others f r s n ≡ among_others g r s n =
    sum_to-same (outside r s (inner f)) (outside r s (inner g)) n (λ i below.
    outside-same r s (inner f) (inner g) i (λ ir is.
    sum_to-same (outside r s (f i)) (outside r s (g i)) n (λ j under.
    outside-same r s (f i) (g i) j (λ jr js. same i j ir is jr js)))) in
    let edges : sum_to (outside r s (with_both g r s)) n ≡ sum_to (outside r s (with_both f r s)) n +ℤ sum_to (outside r s t) n =
    sum_to-same (outside r s (with_both g r s)) (outside r s (λ k. with_both f r s k +ℤ t k)) n (λ k below.
    outside-same r s (with_both g r s) (λ k. with_both f r s k +ℤ t k) k (λ kr ks. cross k kr ks))
    ∙ sum_to-outside_add r s (with_both f r s) t n in
    changed _ _ (among_others g r s n) (sum_to (outside r s (with_both f r s)) n) (sum_to (outside r s (with_both g r s)) n) (sum_to (outside r s t) n) (t r) (t s)
    (among f r s) (among g r s) c (sum_to t n)
    (double_sum-parts f r s n apart hr hs ∙ ap (λ x. (x +ℤ sum_to (outside r s (with_both f r s)) n) +ℤ among f r s) others)
    (double_sum-parts g r s n apart hr hs) edges (sum_to-apart t r s n apart hr hs) corner

minus_times : (x y w : ℤ) → (x -ℤ y) *ℤ w +ℤ y *ℤ w ≡ x *ℤ w
minus_times x y w =
    let z = x -ℤ y in
    let e : z +ℤ y ≡ x = omega (arith, ints) in
    ap₂ ◌+ℤ◌ (*ℤ_comm z w) (*ℤ_comm y w) ∙ sym (*ℤ-+ℤ w z y) ∙ ap (λ t. w *ℤ t) e ∙ *ℤ_comm w x

times_minus : (x u v : ℤ) → x *ℤ (u -ℤ v) +ℤ x *ℤ v ≡ x *ℤ u
times_minus x u v =
    let z = u -ℤ v in
    let e : z +ℤ v ≡ u = omega (arith, ints) in
    sym (*ℤ-+ℤ x z v) ∙ ap (λ t. x *ℤ t) e

four_products : (zw yw xw xv xu yv yu : ℤ) → zw +ℤ yw ≡ xw → xw +ℤ xv ≡ xu → yw +ℤ yv ≡ yu → xu +ℤ yv ≡ (xv +ℤ yu) +ℤ zw
four_products zw yw xw xv xu yv yu h i j = omega (arith, ints)

-- x and y with each other's factor: what the sum of the products changes by
pub crossed_products : (x y u v : ℤ) → x *ℤ u +ℤ y *ℤ v ≡ (x *ℤ v +ℤ y *ℤ u) +ℤ (x -ℤ y) *ℤ (u -ℤ v)
crossed_products x y u v = four_products _ _ _ _ _ _ _ (minus_times x y (u -ℤ v)) (times_minus x u v) (times_minus y u v)
