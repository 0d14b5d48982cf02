-- Pair duals that rows list are refused only if they do not fit.
use Rattle.std.proofs.Common.{◌≡◌, ℕ, ◌+◌, ◌-◌, ◌*◌, ◌<◌, ◌≤◌, ◌/◌, ◌%◌, ◌^◌, List, length, get_or, ℤ, pos, unsigned_abs, sym, ◌∙◌, ap, subst, arith}
use Rattle.std.specs.Prelude.{All}
use Rattle.std.proofs.Math.Nat.{mod-lt}
use Rattle.std.proofs.lemmas.Nat.{mul-le}
use Rattle.qap_cost.specs.Instance.{IsInstance, Problem, entry}
use Rattle.qap_cost.specs.Placement.{IsPlacement, Placement, free_facilities, free_locations}
use Rattle.qap_cost.specs.Range.{AllWithin}
use Rattle.pair_duals.proofs.Seatings.{facilities_of, locations_of, same_count}
use Rattle.pair_duals.proofs.Values.{place_in_square}
use Rattle.pair_duals.specs.PairDuals.{AreDuals, cube}
use Rattle.pair_duals.specs.Range.{IsInScale}
use Rattle.proof_tree.specs.Shape.{ArePairRows, AreLimited}
use Rattle.proof_check.specs.Judge.{wide}
use Rattle.proof_check.specs.Rows.{IsLayers, number_of, rows_of}
use Rattle.proof_check.proofs.Layers.{layer_within, number_of-limited, positive}
use Rattle.proof_check.proofs.ListedDuals.{duals_of}
use Rattle.proof_check.proofs.OneDuals.{place_is}

-- layers of limited numbers
layers_within : (m : ℕ) (f : ℕ → ℕ → ℕ → ℤ) (xs : List ℤ) → IsLayers m f xs → ((j i k : ℕ) → j < m → i < m → k < m → unsigned_abs (f j i k) ≤ 10 ^ 24) → AllWithin (10 ^ 24) xs
layers_within m f xs h limited = record {
  each = λ place below.
      let inside : place < (m * m) * m = omega (arith, h.count, below) in
      let some = positive m place inside in
      let at = place_is m place some in
      let j_in = layer_within m place inside in
      let i_in = mod-lt (place / m) some in
      let k_in = mod-lt place some in
      let is : get_or xs place (pos 0) ≡ f (place / m / m) (place / m % m) (place % m) = sym (ap (λ p. get_or xs p (pos 0)) at) ∙ h.each (place / m / m) (place / m % m) (place % m) j_in i_in k_in in
      subst (λ (z : ℤ). unsigned_abs z ≤ 10 ^ 24) (sym is) (limited (place / m / m) (place / m % m) (place % m) j_in i_in k_in);
}

-- pair duals that were made from rows are within the limits
pub AreDuals-made : (y : Placement) (scale m : ℕ) (rows : List (List ℤ)) (facilities locations : List ℕ) (alpha beta : List ℤ) → IsPlacement y → m ≡ length facilities → facilities ≡ free_facilities y → locations ≡ free_locations y → ArePairRows (y.size - length y.facilities) (rows_of scale rows)
    → IsLayers m (λ j i k. number_of rows i j (i * m + k) 0) alpha → IsLayers m (λ l i k. number_of rows k l (i * m + k) (m - 1)) beta → AreDuals wide (duals_of y.size facilities locations scale alpha beta)
AreDuals-made y scale m rows facilities locations alpha beta is same fs ls shape a b =
    let free = facilities_of y is in
    let m_is : y.size - length y.facilities ≡ m = omega (arith, same, ap length fs, free.count) in
    let count : length rows ≡ m * m = shape.count ∙ ap (λ k. k * k) m_is in
    let each : All (AreLimited (2 * (m - 1))) rows = subst (λ (k : ℕ). All (AreLimited (2 * (k - 1))) rows) m_is shape.each in
    let in_square : (i k : ℕ) → i < m → k < m → i * m + k < length rows = λ i k hi hk. omega (arith, place_in_square m i k hi hk, count) in
    record {
      size = is.small;
      same_count = ap length ls ∙ same_count y is ∙ sym (ap length fs);
      count = omega (arith, ap length fs, free.count);
      facilities = λ i below. subst (λ (l : List ℕ). get_or l i 0 < y.size) (sym fs) ((free.each i (omega (arith, ap length fs, below))).within);
      locations = λ k below. subst (λ (l : List ℕ). get_or l k 0 < y.size) (sym ls) (((locations_of y is).each k (omega (arith, ap length ls, below))).within);
      positive = shape.positive;
      scale = shape.scale;
      alpha_count = a.count ∙ ap cube same;
      beta_count = b.count ∙ ap cube same;
      alpha_range = layers_within m (λ j i k. number_of rows i j (i * m + k) 0) alpha a (λ j i k hj hi hk. number_of-limited rows m i j (i * m + k) 0 each (in_square i k hi hk) hi hj (omega arith));
      beta_range = layers_within m (λ l i k. number_of rows k l (i * m + k) (m - 1)) beta b (λ l i k hl hi hk. number_of-limited rows m k l (i * m + k) (m - 1) each (in_square i k hi hk) hk hl (omega arith));
    }

-- every instance is in scale in 128 bits
pub IsInScale-instance : (I : Problem) (scale : ℕ) → IsInstance I → scale ≤ 2 ^ 20 → IsInScale wide I scale
IsInScale-instance I scale is small = record {
  below = λ i j k l hi hj hk hl.
      let a = is.a_range (i * I.size + j) (place_in_square I.size i j hi hj) in
      let b = is.b_range (k * I.size + l) (place_in_square I.size k l hk hl) in
      let product = mul-le (unsigned_abs (entry I.size I.a i j)) (unsigned_abs (entry I.size I.b k l)) (10 ^ 9) (10 ^ 9) a b in
      let all = mul-le scale (unsigned_abs (entry I.size I.a i j) * unsigned_abs (entry I.size I.b k l)) (2 ^ 20) (10 ^ 9 * 10 ^ 9) small product in
      omega (arith, all);
}
