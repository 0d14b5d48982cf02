-- Distances, one after another, as a matrix.
use Rattle.std.proofs.Common.{◌≡◌, ◌++◌, ◌∷◌, ◌∙◌, ℕ, ◌+◌, ◌*◌, ◌/◌, ◌%◌, ◌<◌, ◌≤◌, List, [], length, length-append, inl, inr, subst, ap, sym, get_or, ℤ, pos, unsigned_abs, arith}
use Rattle.std.specs.Prelude.{All}
use Rattle.std.proofs.lemmas.Bool.{cases_lt}
use Rattle.std.proofs.lemmas.List.{get_or_append_left, get_or_at}
use Rattle.std.proofs.lemmas.List.Elements.{All-from_get_or}
use Rattle.std.proofs.lemmas.Nat.{div-mul-add, mod-mul-add, mul-add-lt}
use Rattle.plan_table.specs.Decimal.{max_entry}
use Rattle.plan_table.specs.declared.places.Point.{Point}
use Rattle.plan_file.specs.Distances.{AreDistances, AreMeasured, IsDistanceAt, point_at}
use Rattle.plan_file.specs.declared.metric.Metric.{Metric}

-- of the distances, the first 0 are none
pub AreMeasured-none : (metric : Metric) (scale : ℕ) (points : List Point) (n : ℕ) (entries : List ℤ) → entries ≡ [] → AreMeasured metric scale points n 0 entries
AreMeasured-none metric scale points n entries none = record {
  many = ap (λ (l : List ℤ). length l) none;
  each = λ k below. absurd (omega arith);
}

-- one number more
pub AreMeasured-more : (metric : Metric) (scale : ℕ) (points : List Point) (n count : ℕ) (entries newer : List ℤ) (z : ℤ) → AreMeasured metric scale points n count entries
    → IsDistanceAt metric scale (point_at points (count / n)) (point_at points (count % n)) z → newer ≡ entries ++ z ∷ [] → AreMeasured metric scale points n (count + 1) newer
AreMeasured-more metric scale points n count entries newer z so_far is pushed = record {
  many = omega (arith, ap (λ (l : List ℤ). length l) pushed, length-append entries (z ∷ []), so_far.many);
  each = λ k below.
      let At : ℕ → ℤ → Type 0 = λ m y. IsDistanceAt metric scale (point_at points (m / n)) (point_at points (m % n)) y in
      elim (cases_lt k count) [
        | inl inside ↦
            let before : get_or newer k (pos 0) ≡ get_or entries k (pos 0) =
            ap (λ l. get_or l k (pos 0)) pushed ∙ get_or_append_left entries (z ∷ []) (pos 0) k (omega (arith, so_far.many, inside)) in
            subst (At k) (sym before) (so_far.each k inside)
        | inr past ↦
            let here : count ≡ k = omega (arith, below, past) in
            let last : get_or newer k (pos 0) ≡ z = ap (λ l. get_or l k (pos 0)) pushed ∙ get_or_at entries z [] (pos 0) k (omega (arith, so_far.many, here)) in
            subst (At k) (sym last) (subst (λ m. At m z) here is)
      ];
}

near_entry : (metric : Metric) (scale : ℕ) (p q : Point) (z : ℤ) → IsDistanceAt metric scale p q z → unsigned_abs z ≤ max_entry
near_entry metric scale p q z is = subst (λ y. unsigned_abs y ≤ max_entry) (sym is.is) is.small

-- all of them
pub AreMeasured-all : (metric : Metric) (scale : ℕ) (points : List Point) (n count : ℕ) (entries : List ℤ) → n ≡ length points → count ≡ n * n → AreMeasured metric scale points n count entries
    → AreDistances metric scale points entries
AreMeasured-all metric scale points n count entries many all measured =
    let whole : AreMeasured metric scale points n (n * n) entries = subst (λ m. AreMeasured metric scale points n m entries) all measured in
    let square : AreMeasured metric scale points (length points) (length points * length points) entries = subst (λ m. AreMeasured metric scale points m (m * m) entries) many whole in
    let size = length points in
    record {
      square = square.many;
      in_range = All-from_get_or (λ z. unsigned_abs z ≤ max_entry) entries (pos 0) (λ k below. near_entry metric scale _ _ _ (square.each k (omega (arith, below, square.many))));
      each = λ i j row column.
          subst (λ a. IsDistanceAt metric scale (point_at points a) (point_at points j) (get_or entries (i * size + j) (pos 0))) (div-mul-add i size j column)
          (subst (λ b. IsDistanceAt metric scale (point_at points ((i * size + j) / size)) (point_at points b) (get_or entries (i * size + j) (pos 0))) (mod-mul-add i size j column)
          (square.each (i * size + j) (mul-add-lt i size j size row column)));
    }
