-- Numbers times powers of ten, and the least power that makes numbers whole.
use Rattle.std.proofs.Common.{◌≡◌, ℕ, ◌+◌, ◌-◌, ◌*◌, ◌^◌, ◌<◌, ◌≤◌, List, [], ◌∷◌, ◌++◌, length, map, take, get_or, Some, ℤ, pos, negsuc, neg_ℤ, zero, suc, ◌*ℤ◌, unsigned_abs, refl, sym, ap, subst, ◌∙◌, arith, add-one}
use Rattle.std.proofs.Math.Nat.{mul-le-mul_left, pow-le-pow_right, pow-suc}
use Rattle.std.proofs.lemmas.Int.{ints, unsigned_abs-mul}
use Rattle.std.proofs.lemmas.Nat.{pow-add}
use Rattle.std.proofs.lemmas.List.{map_more, take_more}
use Rattle.std.proofs.lemmas.List.Elements.{All-pop, All-push, All-weaker}
use Rattle.plan_table.specs.Decimal.{max_entry}
use Rattle.plan_table.specs.Least.{IsWholeAt}
use Rattle.plan_table.specs.Scale.{scaled, shifted, AreScaled, IsLeastScale}
use Rattle.plan_table.specs.declared.decimal.Decimal.{Decimal}

-- the next power of ten is ten times as large
pub power_more : (i : ℕ) → 10 ^ (i + 1) ≡ 10 ^ i * 10
power_more i = ap (λ k. 10 ^ k) (add-one i) ∙ pow-suc 10 i

-- a negated number times another is their product negated
pub neg_times : (k b : ℕ) → neg_ℤ (pos k) *ℤ pos b ≡ neg_ℤ (pos (k * b))
neg_times zero b =
    let none : 0 * b ≡ 0 = omega arith in
    ap pos none ∙ sym (ap (λ k. neg_ℤ (pos k)) none)
neg_times (suc k) b = refl

times_assoc : (z : ℤ) (a b : ℕ) → z *ℤ pos a *ℤ pos b ≡ z *ℤ pos (a * b)
times_assoc (pos n) a b = omega (arith, ints)
times_assoc (negsuc n) a b =
    let same : suc n * a * b ≡ suc n * (a * b) = omega arith in
    neg_times (suc n * a) b ∙ ap (λ k. neg_ℤ (pos k)) same

-- a number times the next power of ten is ten times as large
pub shifted-more : (number value : ℤ) (i : ℕ) → value ≡ shifted number i → value *ℤ pos 10 ≡ shifted number (i + 1)
shifted-more number value i is =
    ap (λ z. z *ℤ pos 10) is ∙ times_assoc number (10 ^ i) 10 ∙ ap (λ k. number *ℤ pos k) (sym (power_more i))

-- a scaled number is its decimal number times the power of ten
pub scaled-whole : (d : Decimal) (power : ℕ) → d.places ≤ power → IsWholeAt d power (scaled power d)
scaled-whole d power enough =
    let left = power - d.places in
    let sum : power ≡ left + d.places = omega arith in
    ap (λ k. d.number *ℤ pos (10 ^ k)) sum
    ∙ ap (λ k. d.number *ℤ pos k) (pow-add 10 left d.places)
    ∙ sym (times_assoc d.number (10 ^ left) (10 ^ d.places))

-- a number that is too far from zero is so at each larger power
pub far_stays : (number value : ℤ) (i power : ℕ) → i ≤ power → value ≡ shifted number i → max_entry < unsigned_abs value → max_entry < unsigned_abs (shifted number power)
far_stays number value i power le is far =
    let here : unsigned_abs value ≡ unsigned_abs number * 10 ^ i = ap unsigned_abs is ∙ unsigned_abs-mul number (pos (10 ^ i)) in
    let there : unsigned_abs (shifted number power) ≡ unsigned_abs number * 10 ^ power = unsigned_abs-mul number (pos (10 ^ power)) in
    let larger = mul-le-mul_left (unsigned_abs number) (pow-le-pow_right {n = 10} (omega arith) {i = i} {j = power} le) in
    omega arith

-- one number more: the least scale is the larger of the old one and its places
pub IsLeastScale-more : (xs : List Decimal) (i s m : ℕ) (d : Decimal) → i < length xs → IsLeastScale (take i xs) s
    → (get_or xs i d).places ≤ m → s ≤ m → ((t : ℕ) → (get_or xs i d).places ≤ t → s ≤ t → m ≤ t) → IsLeastScale (take (i + 1) xs) m
IsLeastScale-more xs i s m d inside so_far places scale most =
    let x = get_or xs i d in
    subst (λ l. IsLeastScale l m) (sym (take_more xs i d inside)) (record {
      enough = All-push (λ y. y.places ≤ m) (take i xs) x (All-weaker (λ y. y.places ≤ s) (λ y. y.places ≤ m) (λ y below. omega arith) (take i xs) so_far.enough) places;
      least = λ t all.
          let parts = All-pop (λ y. y.places ≤ t) (take i xs ++ x ∷ []) (take i xs) (Some x) refl all in
          most t parts.1 (so_far.least t parts.0);
    })

-- one number more, scaled
pub AreScaled-more : (scale : ℕ) (xs : List Decimal) (i : ℕ) (d : Decimal) (old new : List ℤ) (z : ℤ) → i < length xs → AreScaled scale (take i xs) old
    → z ≡ scaled scale (get_or xs i d) → unsigned_abs z ≤ max_entry → new ≡ old ++ z ∷ [] → AreScaled scale (take (i + 1) xs) new
AreScaled-more scale xs i d old new z inside so_far is small pushed =
    subst (λ l. AreScaled scale (take (i + 1) xs) l) (sym pushed) (record {
      exact = ap (λ l. l ++ z ∷ []) so_far.exact ∙ ap (λ y. map (scaled scale) (take i xs) ++ y ∷ []) is ∙ sym (map_more (scaled scale) xs i d inside);
      in_range = All-push (λ y. unsigned_abs y ≤ max_entry) old z so_far.in_range small;
    })
