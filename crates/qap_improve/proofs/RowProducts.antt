-- Products of the differences of entries, in the widths that hold them.
use Rattle.std.proofs.Common.{◌≡◌, ℕ, ◌<◌, ◌≤◌, ◌*◌, List, get_or, arith, subst, sym, w64, to_z, of_z}
use Rattle.std.specs.Prelude.{ℤ, pos, ◌+ℤ◌, ◌-ℤ◌, unsigned_abs}
use Rattle.std.proofs.lemmas.Int.{ints, unsigned_abs-mul}
use Rattle.std.proofs.lemmas.Nat.{mul-le}
use Rattle.qap_improve.specs.Rows.{AreRowsWithin, IsRowWithin, crossed, crossed_with}
use Rattle.qap_improve.specs.declared.rows.Rows.{Rows}

-- a number of such a row
pub row-within : (l n : ℕ) (xs : List ℤ) (k : ℕ) → IsRowWithin l n xs → k < n → unsigned_abs (get_or xs k (pos 0)) ≤ l
row-within l n xs k h below = h.within.each k (let count = h.count in omega arith)

-- small rows are rows of entries
row-wider : (n : ℕ) (xs : List ℤ) → IsRowWithin 50000000 n xs → IsRowWithin 1000000000 n xs
row-wider n xs h = record {
  count = h.count;
  within = record { each = λ j below. let small = h.within.each j below in omega arith };
}

-- rows of entries no further from 0 than 5 * 10^7 are rows of entries no further than 10^9
pub rows-wider : (n : ℕ) (x : Rows) → AreRowsWithin 50000000 n x → AreRowsWithin 1000000000 n x
rows-wider n x h = record {
  size = h.size;
  flow_first = row-wider n x.flow_first.now h.flow_first;
  flow_second = row-wider n x.flow_second.now h.flow_second;
  distance_first = row-wider n x.distance_first.now h.distance_first;
  distance_second = row-wider n x.distance_second.now h.distance_second;
}

small_difference : (x y : ℤ) → unsigned_abs x ≤ 50000000 → unsigned_abs y ≤ 50000000 → unsigned_abs (x -ℤ y) ≤ 100000000
small_difference x y hx hy = omega (arith, ints)

crossed-small : (n : ℕ) (x : Rows) (i j : ℕ) → AreRowsWithin 50000000 n x → i < n → j < n → unsigned_abs (crossed x i j) ≤ 10000000000000000
crossed-small n x i j h hi hj =
    let f = get_or x.flow_first.now i (pos 0) in
    let g = get_or x.flow_second.now j (pos 0) in
    let d = get_or x.distance_first.now i (pos 0) in
    let e = get_or x.distance_second.now j (pos 0) in
    let flows = small_difference f g (row-within 50000000 n x.flow_first.now i h.flow_first hi) (row-within 50000000 n x.flow_second.now j h.flow_second hj) in
    let distances = small_difference e d (row-within 50000000 n x.distance_second.now j h.distance_second hj) (row-within 50000000 n x.distance_first.now i h.distance_first hi) in
    let both : unsigned_abs (f -ℤ g) * unsigned_abs (e -ℤ d) ≤ 100000000 * 100000000 = mul-le _ _ _ _ flows distances in
    rw (unsigned_abs-mul (f -ℤ g) (e -ℤ d)) both

added-small : (x y : ℤ) → unsigned_abs x ≤ 10000000000000000 → unsigned_abs y ≤ 10000000000000000 → unsigned_abs (x +ℤ y) ≤ 20000000000000000
added-small x y hx hy = omega (arith, ints)

-- what changes with one facility is no further from 0 than 2 * 10^16, where entries are small
pub crossed_with-small : (n : ℕ) (there back : Rows) (k : ℕ) → AreRowsWithin 50000000 n there → AreRowsWithin 50000000 n back → k < n → unsigned_abs (crossed_with there back k) ≤ 20000000000000000
crossed_with-small n there back k h g below =
    added-small (crossed back k k) (crossed there k k) (crossed-small n back k k g below below) (crossed-small n there k k h below below)

-- a term more, in 64 bits
pub reads_sum : (x y : ℤ) → unsigned_abs x ≤ 5120000000000000000 → unsigned_abs y ≤ 20000000000000000 → to_z w64 (of_z w64 (x +ℤ to_z w64 (of_z w64 y))) ≡ x +ℤ y
reads_sum x y hx hy = omega (arith, ints)

-- rows as long as others
pub rows-own : (l n : ℕ) (x : Rows) → AreRowsWithin l n x → AreRowsWithin l x.size x
rows-own l n x h = subst (λ (m : ℕ). AreRowsWithin l m x) (sym h.size) h
