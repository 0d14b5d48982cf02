-- The numbers that the elements of a list stand for.
use Rattle.std.proofs.Common.{◌≡◌, ℕ, zero, suc, ◌∷◌, refl, replicate, ◌+◌, ◌-◌, ◌*◌, ◌<◌, ◌≤◌, arith, subst, List, length, get_or, map, take, drop, sym, ◌∙◌, ap}
use Rattle.std.specs.Prelude.{ℤ, pos, unsigned_abs}
use Rattle.std.proofs.lemmas.List.{get_or-map, length-map, length-take-le, length-drop, get_or-take, get_or-drop, take-map, drop-map}
use Rattle.std.proofs.lemmas.Nat.{mul-le}
use Rattle.qap_cost.specs.Row.{IsRow}
use Rattle.qap_cost.specs.Range.{AllWithin}

-- an element that was read
pub value_read : {X : Type 0} (value : X → ℤ) (xs : List X) (k : ℕ) (x : X) → x ≡ get_or xs k x → k < length xs → value x ≡ get_or (map value xs) k (pos 0)
value_read value xs k x is below = ap value is ∙ sym (get_or-map value xs k x (pos 0) below)

-- one element again and again
pub map-replicate : {X : Type 0} (value : X → ℤ) (n : ℕ) (x : X) → map value (replicate n x) ≡ replicate n (value x)
map-replicate value zero x = refl
map-replicate value (suc n) x = ap (λ (xs : List ℤ). value x ∷ xs) (map-replicate value n x)

-- how far from 0 it is
pub value_within : {X : Type 0} (value : X → ℤ) (xs : List X) (k : ℕ) (x : X) (m : ℕ) → AllWithin m (map value xs) → x ≡ get_or xs k x → k < length xs → unsigned_abs (value x) ≤ m
value_within value xs k x m range is below =
    subst (λ (z : ℤ). unsigned_abs z ≤ m) (sym (value_read value xs k x is below)) (range.each k (rw (length-map xs value) below))

row_end : (i n : ℕ) → i < n → i * n + n ≤ n * n
row_end i n h = let e : suc i * n ≤ n * n = mul-le _ _ _ _ h (omega arith) in omega (arith, e)

row_of_list : (n i : ℕ) (xs : List ℤ) → i < n → length xs ≡ n * n → IsRow n xs i (take (i * n + n - i * n) (drop (i * n) xs))
row_of_list n i xs h count =
    let width : i * n + n - i * n ≡ n = omega arith in
    let inside = row_end i n h in
    subst (λ (w : ℕ). IsRow n xs i (take w (drop (i * n) xs))) (sym width)
    (record {
      count = length-take-le n (drop (i * n) xs) (omega (arith, inside, count, length-drop (i * n) xs));
      entries = λ j hj. get_or-take n (drop (i * n) xs) j (pos 0) hj ∙ get_or-drop (i * n) xs j (pos 0);
    })

-- a row of a matrix, listed by rows
pub row_values : {X : Type 0} (value : X → ℤ) (n i : ℕ) (xs : List X) → i < n → length xs ≡ n * n →
    IsRow n (map value xs) i (map value (take (i * n + n - i * n) (drop (i * n) xs)))
row_values value n i xs h count =
    let w = i * n + n - i * n in
    subst (λ (row : List ℤ). IsRow n (map value xs) i row) (ap (take w) (drop-map value (i * n) xs) ∙ take-map value w (drop (i * n) xs))
    (row_of_list n i (map value xs) h (length-map xs value ∙ count))
