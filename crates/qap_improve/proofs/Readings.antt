-- Entries, and products of their differences, in the widths that the code holds them in.
use Rattle.std.proofs.Common.{◌≡◌, ℕ, ◌≤◌, true, List, refl, sym, ◌∙◌, ap, ap₂, arith, w64, to_z, of_z}
use Rattle.std.specs.Prelude.{ℤ, pos, ◌+ℤ◌, ◌-ℤ◌, ◌*ℤ◌, ◌<ℤ◌, int_lt, unsigned_abs, FitsSigned}
use Rattle.std.specs.Int.{w32, w128}
use Rattle.std.proofs.lemmas.Int.{ints, to_z-of_z, fits_signed_from_abs}
use Rattle.qap_cost.specs.Instance.{entry}
use Rattle.qap_cost.specs.Range.{InRange}
use Rattle.qap_cost.proofs.Objectives.{reads_entry}

-- how far two entries may lie apart
pub difference_small : (x y : ℤ) → InRange x → InRange y → unsigned_abs (x -ℤ y) ≤ 2000000000
difference_small x y hx hy = omega (arith, ints)

-- the difference of two entries is held in 64 bits
pub reads_difference : (x y : ℤ) → InRange x → InRange y → to_z w64 (of_z w64 (to_z w64 (of_z w64 x) -ℤ to_z w64 (of_z w64 y))) ≡ x -ℤ y
reads_difference x y hx hy =
    let small = difference_small x y hx hy in
    ap₂ (λ (a b : ℤ). to_z w64 (of_z w64 (a -ℤ b))) (reads_entry x hx) (reads_entry y hy)
    ∙ to_z-of_z w64 (x -ℤ y) (fits_signed_from_abs w64 (x -ℤ y) (omega (arith, small)))

-- an entry held in 64 bits is read as any number that equals it
pub reads_as : (z x : ℤ) → z ≡ x → InRange z → to_z w64 (of_z w64 z) ≡ x
reads_as z x is h = reads_entry z h ∙ is

-- an entry whose row and column were read before it
pub reads_at : (n : ℕ) (xs : List ℤ) (i j k l : ℕ) (z : ℤ) → z ≡ entry n xs k l → InRange z → k ≡ i → l ≡ j → to_z w64 (of_z w64 z) ≡ entry n xs i j
reads_at n xs i j k l z is h row column = reads_entry z h ∙ is ∙ ap₂ (entry n xs) row column

-- an entry made narrower
pub reads_narrow : (z y x : ℤ) → z ≡ to_z w64 (of_z w64 y) → y ≡ x → InRange y → to_z w32 (of_z w32 z) ≡ x
reads_narrow z y x is same h =
    ap (λ (t : ℤ). to_z w32 (of_z w32 t)) (is ∙ reads_entry y h) ∙ to_z-of_z w32 y (fits_signed_from_abs w32 y (omega arith)) ∙ same

-- a product of two differences is that of numbers that equal the four
pub reads_crossed : (z x y u v a b c d : ℤ) → z ≡ (x -ℤ y) *ℤ (u -ℤ v) → x ≡ a → y ≡ b → u ≡ c → v ≡ d → z ≡ (a -ℤ b) *ℤ (c -ℤ d)
reads_crossed z x y u v a b c d is xa yb uc vd = is ∙ ap₂ ◌*ℤ◌ (ap₂ ◌-ℤ◌ xa yb) (ap₂ ◌-ℤ◌ uc vd)

-- the sum of two products
pub reads_both : (x y : ℤ) → unsigned_abs x ≤ 4000000000000000000 → unsigned_abs y ≤ 4000000000000000000
    → to_z w64 (of_z w64 (to_z w64 (of_z w64 x) +ℤ to_z w64 (of_z w64 y))) ≡ x +ℤ y
reads_both x y hx hy = omega (arith, ints)

-- a term of 64 bits, made wider
pub reads_term : (z x : ℤ) → z ≡ to_z w64 (of_z w64 x) → unsigned_abs x ≤ 8000000000000000000 → z ≡ x
reads_term z x is h = is ∙ to_z-of_z w64 x (fits_signed_from_abs w64 x (omega arith))

-- a number no further from 0 than 3 * 10^21 is held in 128 bits
pub reads_wide : (x : ℤ) → unsigned_abs x ≤ 3000000000000000000000 → to_z w128 (of_z w128 x) ≡ x
reads_wide x h = to_z-of_z w128 x (fits_signed_from_abs w128 x (omega arith))

-- what the sum of all changes, less two terms and with one more, is read as
pub record Reads (t a b c : ℤ) : Type 0 where
  pub first : to_z w128 (of_z w128 (to_z w128 (of_z w128 t) -ℤ to_z w128 (of_z w128 a))) ≡ t -ℤ a
  pub second : to_z w128 (of_z w128 (to_z w128 (of_z w128 (to_z w128 (of_z w128 t) -ℤ to_z w128 (of_z w128 a))) -ℤ to_z w128 (of_z w128 b))) ≡ (t -ℤ a) -ℤ b
  pub all : to_z w128 (of_z w128 (to_z w128 (of_z w128 (to_z w128 (of_z w128 (to_z w128 (of_z w128 t) -ℤ to_z w128 (of_z w128 a))) -ℤ to_z w128 (of_z w128 b))) +ℤ to_z w128 (of_z w128 c)))
      ≡ ((t -ℤ a) -ℤ b) +ℤ c
  pub small : unsigned_abs (((t -ℤ a) -ℤ b) +ℤ c) ≤ 2072000000000000000000

read_less : (w x y z : ℤ) → w ≡ z → y ≡ to_z w128 (of_z w128 x) → unsigned_abs x ≤ 3000000000000000000000 → unsigned_abs (z -ℤ x) ≤ 3000000000000000000000 → to_z w128 (of_z w128 (w -ℤ y)) ≡ z -ℤ x
read_less w x y z wz yx hx h = ap₂ (λ (a b : ℤ). to_z w128 (of_z w128 (a -ℤ b))) wz (yx ∙ reads_wide x hx) ∙ reads_wide (z -ℤ x) h

-- t less a and b and with c is held in 128 bits at each step
pub reads_all : (t a b c : ℤ) → unsigned_abs t ≤ 2048000000000000000000 → unsigned_abs a ≤ 8000000000000000000 → unsigned_abs b ≤ 8000000000000000000 → unsigned_abs c ≤ 8000000000000000000 → Reads t a b c
reads_all t a b c ht ha hb hc =
    let first : to_z w128 (of_z w128 (to_z w128 (of_z w128 t) -ℤ to_z w128 (of_z w128 a))) ≡ t -ℤ a =
    read_less (to_z w128 (of_z w128 t)) a (to_z w128 (of_z w128 a)) t (reads_wide t (omega arith)) refl (omega arith) (omega (arith, ints)) in
    let second : to_z w128 (of_z w128 (to_z w128 (of_z w128 (to_z w128 (of_z w128 t) -ℤ to_z w128 (of_z w128 a))) -ℤ to_z w128 (of_z w128 b))) ≡ (t -ℤ a) -ℤ b =
    read_less (to_z w128 (of_z w128 (to_z w128 (of_z w128 t) -ℤ to_z w128 (of_z w128 a)))) b (to_z w128 (of_z w128 b)) (t -ℤ a) first refl (omega arith) (omega (arith, ints)) in
    record {
      first = first;
      second = second;
      all = ap₂ (λ (x y : ℤ). to_z w128 (of_z w128 (x +ℤ y))) second (reads_wide c (omega arith)) ∙ reads_wide (((t -ℤ a) -ℤ b) +ℤ c) (omega (arith, ints));
      small = omega (arith, ints);
    }

-- neither step leaves 128 bits
pub fits_second : (t a b : ℤ) → unsigned_abs t ≤ 2048000000000000000000 → unsigned_abs a ≤ 8000000000000000000 → unsigned_abs b ≤ 8000000000000000000
    → FitsSigned w128 (to_z w128 (of_z w128 (to_z w128 (of_z w128 t) -ℤ to_z w128 (of_z w128 a))) -ℤ to_z w128 (of_z w128 b))
fits_second t a b ht ha hb = let r = reads_all t a b (pos 0) ht ha hb (omega arith) in let first = r.first in omega (arith, ints)

-- the last of these steps, the addition of c, does not overflow 128 bits
pub fits_all : (t a b c : ℤ) → unsigned_abs t ≤ 2048000000000000000000 → unsigned_abs a ≤ 8000000000000000000 → unsigned_abs b ≤ 8000000000000000000 → unsigned_abs c ≤ 8000000000000000000
    → FitsSigned w128 (to_z w128 (of_z w128 (to_z w128 (of_z w128 (to_z w128 (of_z w128 t) -ℤ to_z w128 (of_z w128 a))) -ℤ to_z w128 (of_z w128 b))) +ℤ to_z w128 (of_z w128 c))
fits_all t a b c ht ha hb hc = let r = reads_all t a b c ht ha hb hc in let second = r.second in omega (arith, ints)

-- what the test for a gain says
pub is_negative : (x : ℤ) → unsigned_abs x ≤ 2072000000000000000000 → int_lt (to_z w128 (of_z w128 x)) (pos 0) ≡ true → x <ℤ pos 0
is_negative x h test =
    let is = reads_wide x (omega arith) in
    let other : int_lt x (pos 0) ≡ true = ap (λ (y : ℤ). int_lt y (pos 0)) (sym is) ∙ test in
    grind (arith, ints)

-- a number falls where a negative one is added
pub falls : (x y z : ℤ) → x +ℤ y ≡ z → y <ℤ pos 0 → z <ℤ x
falls x y z is h = omega (arith, ints)

-- the difference of two entries, passed on
pub reads_contrasted : (x : ℤ) → unsigned_abs x ≤ 2000000000 → to_z w64 (of_z w64 x) ≡ x
reads_contrasted x h = to_z-of_z w64 x (fits_signed_from_abs w64 x (omega arith))

-- the difference of two differences of entries
pub reads_contrast : (x y : ℤ) → unsigned_abs x ≤ 2000000000 → unsigned_abs y ≤ 2000000000 → to_z w64 (of_z w64 (to_z w64 (of_z w64 x) -ℤ to_z w64 (of_z w64 y))) ≡ x -ℤ y
reads_contrast x y hx hy = omega (arith, ints)

-- the difference of two numbers no further from 0 than 2 * 10^9 does not overflow 64 bits
pub fits_contrast : (x y : ℤ) → unsigned_abs x ≤ 2000000000 → unsigned_abs y ≤ 2000000000 → FitsSigned w64 (to_z w64 (of_z w64 x) -ℤ to_z w64 (of_z w64 y))
fits_contrast x y hx hy = omega (arith, ints)

-- what costs and their differences, and sums of two of those, are read as
pub reads_large : (x : ℤ) → unsigned_abs x ≤ 1000000000000000000000000 → to_z w128 (of_z w128 x) ≡ x
reads_large x h = to_z-of_z w128 x (fits_signed_from_abs w128 x (omega arith))

-- the sum of two numbers no further from 0 than 4 * 10^23 is held in 128 bits
pub reads_large_both : (x y : ℤ) → unsigned_abs x ≤ 400000000000000000000000 → unsigned_abs y ≤ 400000000000000000000000
    → to_z w128 (of_z w128 (to_z w128 (of_z w128 x) +ℤ to_z w128 (of_z w128 y))) ≡ x +ℤ y
reads_large_both x y hx hy =
    ap₂ (λ (a b : ℤ). to_z w128 (of_z w128 (a +ℤ b))) (reads_large x (omega arith)) (reads_large y (omega arith)) ∙ reads_large (x +ℤ y) (omega (arith, ints))

-- nor does it overflow
pub fits_large_both : (x y : ℤ) → unsigned_abs x ≤ 400000000000000000000000 → unsigned_abs y ≤ 400000000000000000000000
    → FitsSigned w128 (to_z w128 (of_z w128 x) +ℤ to_z w128 (of_z w128 y))
fits_large_both x y hx hy = let first = reads_large x (omega arith) in let second = reads_large y (omega arith) in omega (arith, ints)

-- nor does their difference
pub fits_large_less : (x y : ℤ) → unsigned_abs x ≤ 400000000000000000000000 → unsigned_abs y ≤ 400000000000000000000000
    → FitsSigned w128 (to_z w128 (of_z w128 x) -ℤ to_z w128 (of_z w128 y))
fits_large_less x y hx hy = let first = reads_large x (omega arith) in let second = reads_large y (omega arith) in omega (arith, ints)
