-- The numbers that the elements of a list stand for.
use Rattle.std.proofs.Common.{◌≡◌, ℕ, suc, ◌+◌, ◌*◌, ◌<◌, ◌≤◌, arith, subst, List, length, get_or, map, sym, ◌∙◌, ap}
use Rattle.std.specs.Prelude.{ℤ, pos, unsigned_abs}
use Rattle.std.proofs.lemmas.List.{get_or-map, length-map}
use Rattle.std.proofs.lemmas.Nat.{mul-le}
use Rattle.qap_cost.specs.Range.{AllWithin}
use Rattle.pair_duals.specs.PairDuals.{cube}

-- an element that was read
pub value_read : {X : Type 0} (value : X → ℤ) (xs : List X) (k : ℕ) (x : X) → x ≡ get_or xs k x → k < length xs → value x ≡ get_or (map value xs) k (pos 0)
value_read value xs k x is below = ap value is ∙ sym (get_or-map value xs k x (pos 0) below)

-- how far from 0 it is
pub value_within : {X : Type 0} (value : X → ℤ) (xs : List X) (k : ℕ) (x : X) (m : ℕ) → AllWithin m (map value xs) → x ≡ get_or xs k x → k < length xs → unsigned_abs (value x) ≤ m
value_within value xs k x m range is below =
    subst (λ (z : ℤ). unsigned_abs z ≤ m) (sym (value_read value xs k x is below)) (range.each k (rw (length-map xs value) below))

-- a place in a square, and in layers
pub place_in_square : (m i k : ℕ) → i < m → k < m → i * m + k < m * m
place_in_square m i k hi hk = let e : suc i * m ≤ m * m = mul-le _ _ _ _ hi (omega arith) in omega (arith, e)

-- the place of a row and a column of a layer is within the layers
pub place_in_layers : (m j i k : ℕ) → j < m → i < m → k < m → (j * m + i) * m + k < cube m
place_in_layers m j i k hj hi hk =
    let inner = place_in_square m j i hj hi in
    let e : suc (j * m + i) * m ≤ (m * m) * m = mul-le _ _ _ _ inner (omega arith) in
    omega (arith, e)

-- the number at a place; 0 where there is none
abbrev pub value_at : List ℤ → ℕ → ℤ
value_at xs i = get_or xs i (pos 0)

-- where a row of a square ends
pub row_inside : (m r : ℕ) → r < m → r * m + m ≤ m * m
row_inside m r h = let e : suc r * m ≤ m * m = mul-le _ _ _ _ h (omega arith) in omega (arith, e)
