-- Sums of products a block at a time, and the widths that they are made in.
use Rattle.std.proofs.Common.{◌≡◌, ℕ, ◌+◌, ◌*◌, ◌≤◌, List, ℤ, take, drop, length, sym, ap, ap₂, ◌∙◌, arith, to_z, of_z}
use Rattle.std.specs.Prelude.{◌+ℤ◌, ◌*ℤ◌, pos, unsigned_abs}
use Rattle.std.specs.Int.{w32, w64, w128}
use Rattle.std.proofs.lemmas.Int.{ints, to_z-of_z, fits_signed_from_abs, unsigned_abs-mul}
use Rattle.std.proofs.lemmas.Nat.{mul-le}
use Rattle.std.proofs.lemmas.List.{get_or-take, get_or-drop}
use Rattle.qap_cost.specs.Range.{InRange}
use Rattle.qap_cost.specs.Sum.{sum_to}
use Rattle.qap_cost.proofs.Objectives.{reads_entry}
use Rattle.qap_cost.proofs.Sums.{AddsUp, sum_to-same}
use Rattle.gilmore_lawler.specs.Table.{dot}
use Rattle.gilmore_lawler.proofs.Rearrangement.{product_along}
use Rattle.gilmore_lawler.proofs.Skips.{sum_to-split}

-- 32 bits hold an entry, 64 the sum of eight products of two
pub reads_narrow : (x : ℤ) → InRange x → to_z w32 (of_z w32 x) ≡ x
reads_narrow x h = to_z-of_z w32 x (fits_signed_from_abs w32 x (omega arith))

-- an entry held in 64 bits is held in 32
pub narrowed : (x y : ℤ) → InRange x → y ≡ to_z w64 (of_z w64 x) → to_z w32 (of_z w32 y) ≡ x
narrowed x y h is = ap (λ (z : ℤ). to_z w32 (of_z w32 z)) (is ∙ reads_entry x h) ∙ reads_narrow x h

-- a number no further from 0 than 8 * 10^18 is held in 64 bits
pub reads_sum : (z : ℤ) → unsigned_abs z ≤ 8000000000000000000 → to_z w64 (of_z w64 z) ≡ z
reads_sum z h = to_z-of_z w64 z (fits_signed_from_abs w64 z (omega arith))

-- a number no further from 0 than 10^21 is held in 128 bits
pub reads_total : (z : ℤ) → unsigned_abs z ≤ 1000000000000000000000 → to_z w128 (of_z w128 z) ≡ z
reads_total z h = to_z-of_z w128 z (fits_signed_from_abs w128 z (omega arith))

-- the product of two small numbers
pub small_product : (x y : ℤ) → unsigned_abs x ≤ 100000000 → unsigned_abs y ≤ 100000000 → unsigned_abs (x *ℤ y) ≤ 10000000000000000
small_product x y hx hy = omega (arith, unsigned_abs-mul x y, mul-le _ _ _ _ hx hy)

-- k terms more
pub AddsUp-block : (total term new : ℤ) (f : ℕ → ℤ) (n k : ℕ) → AddsUp total f n 1000000000000000000 → term ≡ sum_to (λ j. f (n + j)) k → unsigned_abs term ≤ k * 1000000000000000000 → new ≡ total +ℤ term
    → AddsUp new f (n + k) 1000000000000000000
AddsUp-block total term new f n k h is small sum = record {
  value = sum ∙ ap₂ ◌+ℤ◌ h.value is ∙ sym (sum_to-split f n k);
  small = let old = h.small in omega (arith, ints);
}

-- the products from place s on
pub dot-slice : (xs ys : List ℤ) (s k : ℕ) → length (take k (drop s xs)) ≡ k → dot (take k (drop s xs)) (take k (drop s ys)) ≡ sum_to (λ j. product_along xs ys (s + j)) k
dot-slice xs ys s k long =
    ap (sum_to (product_along (take k (drop s xs)) (take k (drop s ys)))) long
    ∙ sum_to-same (product_along (take k (drop s xs)) (take k (drop s ys))) (λ j. product_along xs ys (s + j)) k (λ j below.
    ap₂ ◌*ℤ◌ (get_or-take k (drop s xs) j (pos 0) below ∙ get_or-drop s xs j (pos 0)) (get_or-take k (drop s ys) j (pos 0) below ∙ get_or-drop s ys j (pos 0)))

-- the products from place s on, added to those before
pub added : (xs ys : List ℤ) (total few wide : ℤ) (s k m : ℕ) → AddsUp total (product_along xs ys) s 1000000000000000000 → s + k ≤ 512 → k ≤ 8 → m ≡ k → length (take k (drop s xs)) ≡ k
    → few ≡ dot (take m (drop s xs)) (take m (drop s ys)) → unsigned_abs few ≤ length (take m (drop s xs)) * 1000000000000000000 → wide ≡ to_z w64 (of_z w64 few)
    → AddsUp (to_z w128 (of_z w128 (total +ℤ to_z w128 (of_z w128 wide)))) (product_along xs ys) (s + k) 1000000000000000000
added xs ys total few wide s k m h within small same long is bounded wide_is =
    let count : length (take m (drop s xs)) ≡ k = ap (λ (n : ℕ). length (take n (drop s xs))) same ∙ long in
    let few_small : unsigned_abs few ≤ k * 1000000000000000000 = omega (arith, bounded, count) in
    let read : wide ≡ few = wide_is ∙ reads_sum few (omega arith) in
    let whole : to_z w128 (of_z w128 wide) ≡ few = ap (λ (z : ℤ). to_z w128 (of_z w128 z)) read ∙ reads_total few (omega arith) in
    let old = h.small in
    let sum : to_z w128 (of_z w128 (total +ℤ to_z w128 (of_z w128 wide))) ≡ total +ℤ few =
    ap (λ (z : ℤ). to_z w128 (of_z w128 (total +ℤ z))) whole ∙ reads_total (total +ℤ few) (omega (arith, ints)) in
    AddsUp-block total few _ (product_along xs ys) s k h
    (is ∙ ap (λ (n : ℕ). dot (take n (drop s xs)) (take n (drop s ys))) same ∙ dot-slice xs ys s k long) few_small sum
