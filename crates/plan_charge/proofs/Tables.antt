-- Matrices that are filled by rows.
use Rattle.std.proofs.Common.{◌≡◌, ◌∙◌, ℕ, ◌+◌, ◌*◌, ◌/◌, ◌%◌, ◌<◌, List, [], ◌∷◌, ◌++◌, length, length-append, inl, inr, subst, ℤ, pos, get_or, ap, ap₂, sym, arith}
use Rattle.std.proofs.lemmas.Nat.{div-mul-add, mod-mul-add, mul-add-lt}
use Rattle.std.proofs.lemmas.Bool.{cases_lt}
use Rattle.std.proofs.lemmas.List.{get_or_append_left, get_or_at}
use Rattle.qap_cost.specs.Instance.{InRange, IsInstance, Problem, entry}
use Rattle.plan_charge.specs.Extended.{IsExtended, IsTable, distance_with, flow_with}
use Rattle.plan_charge.specs.declared.charges.Charges.{Charges}

-- row i, column j of what is filled
filled_entry : (f : ℕ → ℕ → ℤ) (n : ℕ) (xs : List ℤ) (i j : ℕ) → IsTable f n (n * n) xs → i < n → j < n → entry n xs i j ≡ f i j
filled_entry f n xs i j table row column =
    table.each (i * n + j) (mul-add-lt i n j n row column)
    ∙ ap₂ f (div-mul-add i n j column) (mod-mul-add i n j column)

-- nothing is filled
pub IsTable-none : (f : ℕ → ℕ → ℤ) (n : ℕ) (xs : List ℤ) → xs ≡ [] → IsTable f n 0 xs
IsTable-none f n xs none = record {
  many = ap (λ (l : List ℤ). length l) none;
  each = λ k below. absurd (omega arith);
  in_range = λ k below. absurd (omega arith);
}

-- one number more
pub IsTable-more : (f : ℕ → ℕ → ℤ) (n count : ℕ) (xs newer : List ℤ) (z : ℤ) → IsTable f n count xs → z ≡ f (count / n) (count % n) → InRange z → newer ≡ xs ++ z ∷ [] → IsTable f n (count + 1) newer
IsTable-more f n count xs newer z so_far is small pushed =
    let long : length newer ≡ count + 1 = omega (arith, ap (λ (l : List ℤ). length l) pushed, length-append xs (z ∷ []), so_far.many) in
    let before : (k : ℕ) → k < count → get_or newer k (pos 0) ≡ get_or xs k (pos 0) = λ k below. ap (λ l. get_or l k (pos 0)) pushed ∙ get_or_append_left xs (z ∷ []) (pos 0) k (omega (arith, so_far.many)) in
    let last : (k : ℕ) → count ≡ k → get_or newer k (pos 0) ≡ z = λ k same. ap (λ l. get_or l k (pos 0)) pushed ∙ get_or_at xs z [] (pos 0) k (omega (arith, so_far.many)) in
    record {
      many = long;
      each = λ k below.
          elim (cases_lt k count) [
            | inl inside ↦ before k inside ∙ so_far.each k inside
            | inr past ↦
                let here : count ≡ k = omega arith in
                last k here ∙ is ∙ ap (λ j. f (j / n) (j % n)) here
          ];
      in_range = λ k below.
          elim (cases_lt k count) [
            | inl inside ↦ subst InRange (sym (before k inside)) (so_far.in_range k inside)
            | inr past ↦
                let here : count ≡ k = omega arith in
                subst InRange (sym (last k here)) small
          ];
    }

-- the two matrices are those of the extended instance
pub extended_of : (I J : Problem) (c : Charges) (n : ℕ) (a b : List ℤ) → n ≡ I.size + c.count → IsTable (flow_with I c) n (n * n) a → IsTable (distance_with I c) n (n * n) b
    → J ≡ record { size = n; a = a; b = b } → IsInstance J → IsExtended I c J
extended_of I J c n a b sized flows distances is instance =
    let size : J.size ≡ n = ap (λ (P : Problem). P.size) is in
    record {
      instance = instance;
      size = size ∙ sized;
      flow = λ i j row column.
          ap (λ (P : Problem). entry P.size P.a i j) is ∙ filled_entry (flow_with I c) n a i j flows (omega (arith, size)) (omega (arith, size));
      distance = λ k l row column.
          ap (λ (P : Problem). entry P.size P.b k l) is ∙ filled_entry (distance_with I c) n b k l distances (omega (arith, size)) (omega (arith, size));
    }
