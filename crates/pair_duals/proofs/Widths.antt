-- No number of a form, and nothing that it is made of, leaves its width.
use Rattle.std.proofs.Common.{◌≡◌, ℕ, ◌+◌, ◌*◌, ◌/◌, ◌%◌, ◌<◌, ◌≤◌, true, false, Bool, cond, nat_eq, arith, ◌∙◌, ap, subst, List, length, get_or}
use Rattle.std.specs.Prelude.{ℤ, pos, ◌+ℤ◌, ◌*ℤ◌, ◌≤ℤ◌, unsigned_abs}
use Rattle.std.proofs.lemmas.Int.{ints, unsigned_abs-mul}
use Rattle.std.proofs.lemmas.Nat.{mul-le, mod_below}
use Rattle.std.proofs.Math.Nat.{div-add-mod, mul_comm}
use Rattle.qap_cost.specs.Instance.{Problem, entry}
use Rattle.qap_cost.specs.Placement.{Placement, IsPlacement}
use Rattle.qap_cost.specs.Sum.{sum_to}
use Rattle.qap_cost.proofs.Sums.{sum_to-bound, sum_to-scale, *ℤ-+ℤ}
use Rattle.gilmore_lawler.specs.ReducedMatrix.{cost_with}
use Rattle.gilmore_lawler.proofs.OneMatrix.{positive_root, row_below}
use Rattle.pair_duals.specs.CostOfPair.{cost_of_pair}
use Rattle.pair_duals.specs.Limits.{Limits, AreEnough, reach}
use Rattle.pair_duals.specs.PairDuals.{Duals, AreDuals, alpha_of, beta_of, residual}
use Rattle.pair_duals.specs.Range.{IsInScale, IsSpread}
use Rattle.pair_duals.specs.Reduced.{sum_but}
use Rattle.pair_duals.specs.Start.{own_entry}
use Rattle.pair_duals.proofs.Values.{place_in_layers, place_in_square}

-- a scaled product
pub product-within : (m : Limits) (I : Problem) (s i j k l : ℕ) → IsInScale m I s → i < I.size → j < I.size → k < I.size → l < I.size → unsigned_abs (pos s *ℤ (entry I.size I.a i j *ℤ entry I.size I.b k l)) ≤ m.cost
product-within m I s i j k l h hi hj hk hl =
    let a = entry I.size I.a i j in
    let b = entry I.size I.b k l in
    let is : unsigned_abs (pos s *ℤ (a *ℤ b)) ≡ s * (unsigned_abs a * unsigned_abs b) = unsigned_abs-mul (pos s) (a *ℤ b) ∙ ap (λ z. s * z) (unsigned_abs-mul a b) in
    omega (arith, is, h.below i j k l hi hj hk hl)

-- a scaled pair
pub pair-within : (m : Limits) (I : Problem) (s i k j l : ℕ) → IsInScale m I s → i < I.size → k < I.size → j < I.size → l < I.size → unsigned_abs (pos s *ℤ cost_of_pair I i k j l) ≤ 2 * m.cost
pair-within m I s i k j l h hi hk hj hl =
    let there = product-within m I s i j k l h hi hj hk hl in
    let back = product-within m I s j i l k h hj hi hl hk in
    let split = *ℤ-+ℤ (pos s) (entry I.size I.a i j *ℤ entry I.size I.b k l) (entry I.size I.a j i *ℤ entry I.size I.b l k) in
    omega (arith, ints, there, back, split)

-- a dual alpha(i,k,j)
pub alpha-within : (m : Limits) (D : Duals) (i k j : ℕ) → AreDuals m D → i < length D.facilities → k < length D.locations → j < length D.facilities → unsigned_abs (alpha_of D i k j) ≤ m.dual
alpha-within m D i k j d hi hk hj =
    d.alpha_range.each ((j * length D.facilities + i) * length D.facilities + k) (omega (arith, d.alpha_count, place_in_layers (length D.facilities) j i k hj hi (omega (arith, d.same_count))))

-- a dual beta(i,k,l)
pub beta-within : (m : Limits) (D : Duals) (i k l : ℕ) → AreDuals m D → i < length D.facilities → k < length D.locations → l < length D.locations → unsigned_abs (beta_of D i k l) ≤ m.dual
beta-within m D i k l d hi hk hl =
    d.beta_range.each ((l * length D.facilities + i) * length D.facilities + k) (omega (arith, d.beta_count, place_in_layers (length D.facilities) l i k (omega (arith, d.same_count)) hi (omega (arith, d.same_count))))

-- what the duals leave of a pair
pub residual-within : (m : Limits) (I : Problem) (D : Duals) (i k j l : ℕ) → AreEnough m → AreDuals m D → IsInScale m I D.scale → I.size ≡ D.size → i < length D.facilities → k < length D.locations → j < length D.facilities → l < length D.locations → unsigned_abs (residual I D i k j l) ≤ m.pair
residual-within m I D i k j l enough d scale size hi hk hj hl =
    let cost = pair-within m I D.scale (get_or D.facilities i 0) (get_or D.locations k 0) (get_or D.facilities j 0) (get_or D.locations l 0) scale (omega (arith, size, d.facilities i hi)) (omega (arith, size, d.locations k hk)) (omega (arith, size, d.facilities j hj)) (omega (arith, size, d.locations l hl)) in
    let a = alpha-within m D i k j d hi hk hj in
    let b = beta-within m D i k l d hi hk hl in
    let a' = alpha-within m D j l i d hj hl hi in
    let b' = beta-within m D j l k d hj hl hk in
    let room = enough.pair in
    omega (arith, ints, cost, a, b, a', b', room)

-- the linear cost of a free facility at a free location, scaled, as far as so many placed ones go
pub linear-within : (m : Limits) (I : Problem) (x : Placement) (s i k count : ℕ) → IsInScale m I s → IsPlacement x → I.size ≡ x.size → i < I.size → k < I.size → count ≤ length x.facilities
    → unsigned_abs (pos s *ℤ (entry I.size I.a i i *ℤ entry I.size I.b k k +ℤ sum_to (cost_with I x i k) count)) ≤ (2 * count + 1) * m.cost
linear-within m I x s i k count h is size hi hk deep =
    let own = product-within m I s i i k k h hi hi hk hk in
    let split = *ℤ-+ℤ (pos s) (entry I.size I.a i i *ℤ entry I.size I.b k k) (sum_to (cost_with I x i k) count) in
    let scaled = sum_to-scale (pos s) (cost_with I x i k) count in
    let bound = sum_to-bound (λ t. pos s *ℤ cost_with I x i k t) count (2 * m.cost) (λ t below.
    pair-within m I s i k (get_or x.facilities t 0) (get_or x.places t 0) h hi hk
    (omega (arith, size, is.facilities.within t (omega arith))) (omega (arith, size, is.places.within t (omega (arith, is.paired))))) in
    omega (arith, ints, own, split, scaled, bound)

-- a sum over the others
pub but-within : (k : ℕ) (f : ℕ → ℤ) (n limit : ℕ) → ((j : ℕ) → j < n → unsigned_abs (f j) ≤ limit) → unsigned_abs (sum_but k f n) ≤ n * limit
but-within k f n limit h =
    sum_to-bound (λ j. cond (nat_eq j k) (pos 0) (f j)) n limit (λ j below.
    elim (nat_eq j k) as (λ t. unsigned_abs (cond t (pos 0) (f j)) ≤ limit) [ true ↦ omega arith | false ↦ h j below ])

-- an entry of the node that the duals belong to
pub own_entry-within : (m : Limits) (I : Problem) (D : Duals) (x : Placement) (i k : ℕ) → AreEnough m → AreDuals m D → IsInScale m I D.scale → IsPlacement x → I.size ≡ x.size → I.size ≡ D.size → length D.facilities + length x.facilities ≡ x.size → i < length D.facilities → k < length D.locations → unsigned_abs (own_entry I D x i k) ≤ m.start
own_entry-within m I D x i k enough d scale is size duals_size count hi hk =
    let F = length D.facilities in
    let linear = linear-within m I x D.scale (get_or D.facilities i 0) (get_or D.locations k 0) (length x.facilities) scale is size (omega (arith, duals_size, d.facilities i hi)) (omega (arith, duals_size, d.locations k hk)) (omega arith) in
    let a = but-within i (alpha_of D i k) F m.dual (λ j below. alpha-within m D i k j d hi hk below) in
    let b = but-within k (beta_of D i k) (length D.locations) m.dual (λ l below. beta-within m D i k l d hi hk below) in
    let room = enough.start in
    let costs : (2 * length x.facilities + 1) * m.cost ≤ (2 * m.size) * m.cost = mul-le _ _ _ _ (omega (arith, count, size, duals_size, d.size)) (omega arith) in
    let duals : F * m.dual ≤ m.size * m.dual = mul-le _ _ _ _ (omega (arith, d.count, d.size)) (omega arith) in
    let same = d.same_count in
    let b' : unsigned_abs (sum_but k (beta_of D i k) (length D.locations)) ≤ F * m.dual = subst (λ (n : ℕ). unsigned_abs (sum_but k (beta_of D i k) (length D.locations)) ≤ n * m.dual) same b in
    omega (arith, ints, linear, a, b', room, costs, duals)

-- ---- the entries of a form

-- a place in a square is that of a row and a column
pub square_place : (m j : ℕ) → j < m * m → (r : ℕ) × (c : ℕ) × (r < m) × (c < m) × (r * m + c ≡ j)
square_place m j h =
    let at : j / m * m + j % m ≡ j = omega (arith, div-add-mod j m, mul_comm m (j / m)) in (
      j / m,
      j % m,
      row_below m (j / m) (j % m) j h at,
      mod_below j m (positive_root m j h),
      at,
    )

-- numbers are spread no further than the entries of their square lie from 0 and from one another
pub IsSpread-from_entries : (far m : ℕ) (xs : List ℤ) → length xs ≡ m * m → ((r c : ℕ) → r < m → c < m → unsigned_abs (entry m xs r c) ≤ far)
    → ((r c q d : ℕ) → r < m → c < m → q < m → d < m → entry m xs r c ≤ℤ (entry m xs q d +ℤ pos far)) → IsSpread far xs
IsSpread-from_entries far m xs count each apart = record {
  each = λ j h.
      let p = square_place m j (omega (arith, count)) in
      subst (λ (k : ℕ). unsigned_abs (get_or xs k (pos 0)) ≤ far) p.4 (each p.0 p.1 p.2 p.3);
  apart = λ i j hi hj.
      let p = square_place m i (omega (arith, count)) in
      let q = square_place m j (omega (arith, count)) in
      subst (λ (k : ℕ). get_or xs k (pos 0) ≤ℤ (get_or xs j (pos 0) +ℤ pos far)) p.4
      (subst (λ (k : ℕ). get_or xs (p.0 * m + p.1) (pos 0) ≤ℤ (get_or xs k (pos 0) +ℤ pos far)) q.4 (apart p.0 p.1 q.0 q.1 p.2 p.3 q.2 q.3));
}

-- entries of a spread matrix
pub entry-within : (far m : ℕ) (xs : List ℤ) (r c : ℕ) → length xs ≡ m * m → IsSpread far xs → r < m → c < m → unsigned_abs (entry m xs r c) ≤ far
entry-within far m xs r c count s hr hc = s.each (r * m + c) (omega (arith, count, place_in_square m r c hr hc))

-- no two of them are further from each other than the spread
pub entry-apart : (far m : ℕ) (xs : List ℤ) (r c q d : ℕ) → length xs ≡ m * m → IsSpread far xs → r < m → c < m → q < m → d < m → entry m xs r c ≤ℤ (entry m xs q d +ℤ pos far)
entry-apart far m xs r c q d count s hr hc hq hd =
    s.apart (r * m + c) (q * m + d) (omega (arith, count, place_in_square m r c hr hc)) (omega (arith, count, place_in_square m q d hq hd))

-- at any depth
pub reach-within : (m : Limits) (depth : ℕ) (lined : Bool) → AreEnough m → depth ≤ m.size → reach m depth lined + (2 * m.pair + 2 * m.dual) ≤ m.reach
reach-within m depth true enough h =
    let deep : depth * (2 * m.pair + 2 * m.dual) ≤ m.size * (2 * m.pair + 2 * m.dual) = mul-le _ _ _ _ h (omega arith) in
    let room = enough.reach in
    omega (arith, deep, room)
reach-within m depth false enough h =
    let deep : depth * (2 * m.pair + 2 * m.dual) ≤ m.size * (2 * m.pair + 2 * m.dual) = mul-le _ _ _ _ h (omega arith) in
    let room = enough.reach in
    omega (arith, deep, room)
