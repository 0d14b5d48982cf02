-- Places with one left out, and sums with one term apart.
use Rattle.std.proofs.Common.{◌≡◌, ◌≢◌, ℕ, zero, suc, ◌+◌, ◌-◌, ◌<◌, ◌≤◌, refl, sym, ◌∙◌, ap, arith, List, map, length, get_or, take, drop, inl, inr}
use Rattle.std.specs.Prelude.{ℤ, pos, ◌+ℤ◌, remove}
use Rattle.std.proofs.lemmas.Int.{ints}
use Rattle.std.proofs.lemmas.Bool.{cases_lt}
use Rattle.std.proofs.lemmas.List.{get_or_append_left, get_or-append_right, get_or-take, get_or-drop, length-take-le, length-drop, length-append, get_or-map}
use Rattle.qap_cost.specs.Sum.{sum_to}
use Rattle.qap_cost.proofs.Sums.{sum_to-same}

-- the number at place j of those other than r
pub skip : ℕ → ℕ → ℕ
skip zero j = suc j
skip (suc r) zero = zero
skip (suc r) (suc j) = suc (skip r j)

-- the place of t among the numbers other than r
pub unskip : ℕ → ℕ → ℕ
unskip zero t = t - 1
unskip (suc r) zero = zero
unskip (suc r) (suc t) = suc (unskip r t)

-- before place r the number at each place is that place
pub skip-before : (r j : ℕ) → j < r → skip r j ≡ j
unfolding skip
skip-before zero j h = absurd (omega arith)
skip-before (suc r) zero h = refl
skip-before (suc r) (suc j) h = ap suc (skip-before r j (omega arith))

-- from place r on it is one more
pub skip-after : (r j : ℕ) → r ≤ j → skip r j ≡ suc j
unfolding skip
skip-after zero j h = refl
skip-after (suc r) zero h = absurd (omega arith)
skip-after (suc r) (suc j) h = ap suc (skip-after r j (omega arith))

-- it is never r
pub skip-other : (r j : ℕ) → skip r j ≢ r
skip-other r j e =
    elim (cases_lt j r) [
      | inl less ↦ omega (arith, skip-before r j less)
      | inr more ↦ omega (arith, skip-after r j more)
    ]

-- no two places have the same number
pub skip-injective : (r i j : ℕ) → skip r i ≡ skip r j → i ≡ j
skip-injective r i j e =
    elim (cases_lt i r) [
      | inl a ↦ elim (cases_lt j r) [
        | inl b ↦ omega (arith, skip-before r i a, skip-before r j b)
        | inr b ↦ omega (arith, skip-before r i a, skip-after r j b)
      ]
      | inr a ↦ elim (cases_lt j r) [
        | inl b ↦ omega (arith, skip-after r i a, skip-before r j b)
        | inr b ↦ omega (arith, skip-after r i a, skip-after r j b)
      ]
    ]

-- of two that are left out, either may go first
pub skip-skip : (a b j : ℕ) → a ≤ b → skip (suc b) (skip a j) ≡ skip a (skip b j)
unfolding skip
skip-skip zero b j h = refl
skip-skip (suc a) zero j h = absurd (omega arith)
skip-skip (suc a) (suc b) zero h = refl
skip-skip (suc a) (suc b) (suc j) h = ap suc (skip-skip a b j (omega arith))

-- the first n places have numbers up to n
pub skip-within : (r j n : ℕ) → j < n → skip r j < suc n
skip-within r j n h =
    elim (cases_lt j r) [
      | inl less ↦ omega (arith, skip-before r j less)
      | inr more ↦ omega (arith, skip-after r j more)
    ]

-- a number other than r has a place
pub skip-unskip : (r t : ℕ) → t ≢ r → skip r (unskip r t) ≡ t
unfolding skip unskip
skip-unskip zero zero n = absurd (n refl)
skip-unskip zero (suc t) n = omega arith
skip-unskip (suc r) zero n = refl
skip-unskip (suc r) (suc t) n = ap suc (skip-unskip r t (λ e. n (ap suc e)))

-- where r is at most n, a number up to n other than r has one of the first n places
pub unskip-within : (r t n : ℕ) → r ≤ n → t ≤ n → t ≢ r → unskip r t < n
unskip-within r t n hr ht other =
    let e = skip-unskip r t other in
    elim (cases_lt (unskip r t) r) [
      | inl less ↦ omega (arith, skip-before r (unskip r t) less)
      | inr more ↦ omega (arith, skip-after r (unskip r t) more)
    ]

-- a sum, with its term at r apart
pub sum_to-apart : (f : ℕ → ℤ) (r n : ℕ) → r ≤ n → sum_to f (suc n) ≡ f r +ℤ sum_to (λ j. f (skip r j)) n
sum_to-apart f r zero h =
    let e : r ≡ 0 = omega arith in
    let same : f r ≡ f 0 = ap f e in
    omega (arith, ints)
sum_to-apart f r (suc n) h =
    elim (cases_lt n r) [
      | inl last ↦
          let e : suc n ≡ r = omega arith in
          let here : f (suc n) ≡ f r = ap f e in
          let before : sum_to f (suc n) ≡ sum_to (λ j. f (skip r j)) (suc n) =
          sum_to-same f (λ j. f (skip r j)) (suc n) (λ j below. ap f (sym (skip-before r j (omega arith)))) in
          omega (arith, ints, here, before)
      | inr earlier ↦
          let ih : sum_to f (suc n) ≡ f r +ℤ sum_to (λ j. f (skip r j)) n = sum_to-apart f r n earlier in
          let last : f (skip r n) ≡ f (suc n) = ap f (skip-after r n earlier) in
          omega (arith, ints, ih, last)
    ]

-- a sum in two parts
pub sum_to-split : (f : ℕ → ℤ) (d m : ℕ) → sum_to f (d + m) ≡ sum_to f d +ℤ sum_to (λ r. f (d + r)) m
sum_to-split f d zero =
    let e : d + zero ≡ d = omega arith in
    let same : sum_to f (d + zero) ≡ sum_to f d = ap (sum_to f) e in
    omega (arith, ints, same)
sum_to-split f d (suc m) =
    let e : d + suc m ≡ suc (d + m) = omega arith in
    let same : sum_to f (d + suc m) ≡ sum_to f (d + m) +ℤ f (d + m) = ap (sum_to f) e in
    let ih = sum_to-split f d m in
    omega (arith, ints, same, ih)

-- a list without one of its items is one item shorter
pub length-remove : {X : Type 0} (xs : List X) (r : ℕ) → r < length xs → length (remove xs r) + 1 ≡ length xs
length-remove xs r h =
    omega (arith, length-append (take r xs) (drop (suc r) xs), length-take-le r xs (omega arith), length-drop (suc r) xs)

-- its item at each place is that at the same one of the places other than r
pub get_or-remove : {X : Type 0} (xs : List X) (r j : ℕ) (d : X) → r < length xs → get_or (remove xs r) j d ≡ get_or xs (skip r j) d
get_or-remove xs r j d h =
    let front = length-take-le r xs (omega arith) in
    elim (cases_lt j r) [
      | inl less ↦
          get_or_append_left (take r xs) (drop (suc r) xs) d j (omega arith)
          ∙ get_or-take r xs j d less
          ∙ ap (λ k. get_or xs k d) (sym (skip-before r j less))
      | inr more ↦
          let e : suc r + (j - r) ≡ skip r j = omega (arith, skip-after r j more) in
          get_or-append_right (take r xs) (drop (suc r) xs) r j d front more
          ∙ get_or-drop (suc r) xs (j - r) d
          ∙ ap (λ k. get_or xs k d) e
    ]

-- a map over the others, read at a place
pub get_or-map_remove : (f : ℕ → ℤ) (xs : List ℕ) (r j : ℕ) → r < length xs → suc j < length xs → get_or (map f (remove xs r)) j (pos 0) ≡ f (get_or xs (skip r j) 0)
get_or-map_remove f xs r j h below =
    get_or-map f (remove xs r) j 0 (pos 0) (omega (arith, length-remove xs r h))
    ∙ ap f (get_or-remove xs r j 0 h)
