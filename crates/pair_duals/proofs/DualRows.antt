-- Rows of duals, as the code takes them from their list.
use Rattle.std.proofs.Common.{◌≡◌, ◌≢◌, ℕ, suc, ◌+◌, ◌*◌, ◌<◌, ◌≤◌, arith, sym, ◌∙◌, ap, subst, List, length, get_or, set, map, take, drop, inl, inr, get_or-set_other, get_or-set_same}
use Rattle.std.specs.Prelude.{ℤ, pos, unsigned_abs}
use Rattle.std.proofs.lemmas.Bool.{cases_lt}
use Rattle.std.proofs.lemmas.List.{drop-map, get_or-drop, get_or-take, length-drop, length-map, length-set, length-take-le, take-map}
use Rattle.qap_cost.specs.Range.{AllWithin}
use Rattle.pair_duals.specs.DualRow.{BeginsDualRow, IsDualRow}
use Rattle.pair_duals.specs.PairDuals.{cube}
use Rattle.pair_duals.proofs.Values.{place_in_square, value_read, value_within}
use Rattle.std.proofs.lemmas.Nat.{mul-le}

-- what lies from a place on
taken : (limit m s : ℕ) (xs : List ℤ) (f : ℕ → ℤ) → s + m ≤ length xs → ((k : ℕ) → k < m → get_or xs (s + k) (pos 0) ≡ f k) → ((k : ℕ) → k < m → unsigned_abs (f k) ≤ limit) → IsDualRow limit m f (take m (drop s xs))
taken limit m s xs f inside same small =
    let room : m ≤ length (drop s xs) = omega (arith, length-drop s xs) in
    let count : length (take m (drop s xs)) ≡ m = length-take-le m (drop s xs) room in
    let entries : (k : ℕ) → k < m → get_or (take m (drop s xs)) k (pos 0) ≡ f k = λ k below. get_or-take m (drop s xs) k (pos 0) below ∙ get_or-drop s xs k (pos 0) ∙ same k below in
    record {
      count = count;
      entries = entries;
      range = record {
        each = λ k below.
            let h : k < m = omega (arith, count) in
            subst (λ z. unsigned_abs z ≤ limit) (sym (entries k h)) (small k h);
      };
    }

-- m numbers taken from a place of their list are a row
pub IsDualRow-taken_small : {X : Type 0} (value : X → ℤ) (limit m s n : ℕ) (xs : List X) (f : ℕ → ℤ) → n ≡ m → s + m ≤ length xs → ((k : ℕ) → k < m → get_or (map value xs) (s + k) (pos 0) ≡ f k) → ((k : ℕ) → k < m → unsigned_abs (f k) ≤ limit)
    → IsDualRow limit m f (map value (take n (drop s xs)))
IsDualRow-taken_small value limit m s n xs f count inside same small =
    let whole : take m (drop s (map value xs)) ≡ map value (take n (drop s xs)) =
    ap (take m) (drop-map value s xs) ∙ take-map value m (drop s xs) ∙ ap (λ k. map value (take k (drop s xs))) (sym count) in
    subst (IsDualRow limit m f) whole (taken limit m s (map value xs) f (omega (arith, length-map xs value)) same small)

-- the same where all numbers of the list are duals
pub IsDualRow-taken : {X : Type 0} (value : X → ℤ) (limit m s n : ℕ) (xs : List X) (f : ℕ → ℤ) → n ≡ m → s + m ≤ length xs → AllWithin limit (map value xs) → ((k : ℕ) → k < m → get_or (map value xs) (s + k) (pos 0) ≡ f k)
    → IsDualRow limit m f (map value (take n (drop s xs)))
IsDualRow-taken value limit m s n xs f count inside range same =
    IsDualRow-taken_small value limit m s n xs f count inside same (λ k below. subst (λ z. unsigned_abs z ≤ limit) (same k below) (range.each (s + k) (omega (arith, length-map xs value))))

-- where a row of a layer ends
pub row_in_layers : (m j i : ℕ) → j < m → i < m → (j * m + i) * m + m ≤ cube m
row_in_layers m j i hj hi =
    let inner = place_in_square m j i hj hi in
    let e : suc (j * m + i) * m ≤ (m * m) * m = mul-le _ _ _ _ inner (omega arith) in
    omega (arith, e)

-- a dual of a row, as it was read
pub dual_read : {X : Type 0} (value : X → ℤ) (limit m : ℕ) (f : ℕ → ℤ) (xs : List X) (k : ℕ) (x : X) → IsDualRow limit m f (map value xs) → x ≡ get_or xs k x → k < m → (value x ≡ f k) × (unsigned_abs (value x) ≤ limit)
dual_read value limit m f xs k x row is below =
    let inside : k < length xs = omega (arith, row.count, length-map xs value) in
    (value_read value xs k x is inside ∙ row.entries k below, value_within value xs k x limit row.range is inside)

-- before any was written
pub BeginsDualRow-none : (limit m : ℕ) (f : ℕ → ℤ) (xs : List ℤ) → length xs ≡ m → BeginsDualRow limit m f 0 xs
BeginsDualRow-none limit m f xs e = record { length = e; entries = λ k h. absurd (omega arith); range = λ k h. absurd (omega arith) }

-- one more was written
pub BeginsDualRow-more : (limit m : ℕ) (f : ℕ → ℤ) (c : ℕ) (xs : List ℤ) (x : ℤ) → BeginsDualRow limit m f c xs → c < m → x ≡ f c → unsigned_abs x ≤ limit → BeginsDualRow limit m f (c + 1) (set xs c x)
BeginsDualRow-more limit m f c xs x h inside is small =
    let within : c < length xs = omega (arith, h.length) in
    let other : (k : ℕ) → k ≢ c → get_or (set xs c x) k (pos 0) ≡ get_or xs k (pos 0) = λ k apart. get_or-set_other xs c k x (pos 0) apart in
    let same : get_or (set xs c x) c (pos 0) ≡ x = get_or-set_same xs c x (pos 0) within in
    record {
      length = length-set xs c x ∙ h.length;
      entries = λ k hk.
          elim (cases_lt k c) [
            | inl less ↦ other k (λ e. omega arith) ∙ h.entries k less
            | inr more ↦
                let e : k ≡ c = omega arith in
                ap (λ n. get_or (set xs c x) n (pos 0)) e ∙ same ∙ is ∙ ap f (sym e)
          ];
      range = λ k hk.
          elim (cases_lt k c) [
            | inl less ↦ subst (λ z. unsigned_abs z ≤ limit) (sym (other k (λ e. omega arith))) (h.range k less)
            | inr more ↦
                let e : k ≡ c = omega arith in
                subst (λ z. unsigned_abs z ≤ limit) (sym (ap (λ n. get_or (set xs c x) n (pos 0)) e ∙ same)) small
          ];
    }

-- all were written
pub IsDualRow-begun : (limit m : ℕ) (f : ℕ → ℤ) (xs : List ℤ) → BeginsDualRow limit m f m xs → IsDualRow limit m f xs
IsDualRow-begun limit m f xs h = record {
  count = h.length;
  entries = h.entries;
  range = record { each = λ k hk. h.range k (omega (arith, h.length)) };
}
