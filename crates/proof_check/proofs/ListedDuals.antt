-- Pair duals of a node by the rows that list them.
use Rattle.std.proofs.Common.{◌≡◌, ◌≢◌, ℕ, ◌+◌, ◌-◌, ◌*◌, ◌<◌, ◌≤◌, cond, List, [], ◌∷◌, length, map, get_or, ℤ, pos, refl, ◌∙◌, ap, subst, inl, inr, arith, nat_eq}
use Rattle.std.specs.Prelude.{nat_lt}
use Rattle.std.proofs.lemmas.Bool.{cases_lt, cond-true, cond-false, lt-ltb, le-ltb, ne_eqb, eq-eqb}
use Rattle.qap_cost.specs.Placement.{Placement, free_facilities, free_locations}
use Rattle.pair_duals.specs.PairDuals.{Duals}
use Rattle.pair_duals.specs.Reduced.{past}
use Rattle.proof_tree.specs.Valid.{AreListed}
use Rattle.proof_check.specs.Rows.{IsLayers, number_of, rows_of}

-- numbers that are each left as they are
pub map-itself : (xs : List ℤ) → map (λ x. x) xs ≡ xs
map-itself [] = refl
map-itself (x ∷ xs) = ap (λ l. x ∷ l) (map-itself xs)

past-other : (own t : ℕ) → past own t ≢ own
past-other own t e =
    elim (cases_lt t own) [
      | inl less ↦ let is = cond-true (nat_lt t own) t (t + 1) (lt-ltb t own less) in absurd (omega (arith, e, is, less))
      | inr more ↦ let is = cond-false (nat_lt t own) t (t + 1) (le-ltb t own more) in absurd (omega (arith, e, is, more))
    ]

-- where the number for another one stands
past-place : (own t : ℕ) → cond (nat_lt (past own t) own) (past own t) (past own t - 1) ≡ t
past-place own t =
    elim (cases_lt t own) [
      | inl less ↦
          let is = cond-true (nat_lt t own) t (t + 1) (lt-ltb t own less) in
          ap (λ p. cond (nat_lt p own) p (p - 1)) is ∙ cond-true (nat_lt t own) t (t - 1) (lt-ltb t own less)
      | inr more ↦
          let is = cond-false (nat_lt t own) t (t + 1) (le-ltb t own more) in
          let high : own ≤ t + 1 = omega (arith, more) in
          let back : t + 1 - 1 ≡ t = omega arith in
          ap (λ p. cond (nat_lt p own) p (p - 1)) is ∙ cond-false (nat_lt (t + 1) own) (t + 1) (t + 1 - 1) (le-ltb (t + 1) own high) ∙ back
    ]

number_of-past : (rows : List (List ℤ)) (own t row start : ℕ) → number_of rows own (past own t) row start ≡ get_or (get_or rows row []) (start + t) (pos 0)
number_of-past rows own t row start =
    cond-false (nat_eq (past own t) own) (pos 0) (get_or (get_or rows row []) (start + cond (nat_lt (past own t) own) (past own t) (past own t - 1)) (pos 0)) (ne_eqb (past own t) own (past-other own t))
    ∙ ap (λ p. get_or (get_or rows row []) (start + p) (pos 0)) (past-place own t)

number_of-itself : (rows : List (List ℤ)) (own row start : ℕ) → number_of rows own own row start ≡ pos 0
number_of-itself rows own row start =
    cond-true (nat_eq own own) (pos 0) (get_or (get_or rows row []) (start + cond (nat_lt own own) own (own - 1)) (pos 0)) (eq-eqb own own refl)

-- the pair duals of these parts
abbrev pub duals_of : ℕ → List ℕ → List ℕ → ℕ → List ℤ → List ℤ → Duals
duals_of size facilities locations scale alpha beta = record { size = size; facilities = facilities; locations = locations; scale = scale; alpha = alpha; beta = beta }

past-in : (m own t : ℕ) → own < m → t + 1 < m → past own t < m
past-in m own t ho ht =
    elim (cases_lt t own) [
      | inl less ↦ let is = cond-true (nat_lt t own) t (t + 1) (lt-ltb t own less) in omega (arith, is, ht)
      | inr more ↦ let is = cond-false (nat_lt t own) t (t + 1) (le-ltb t own more) in omega (arith, is, ht)
    ]

-- pair duals whose layers were made from the rows are those that the rows list
pub AreListed-made : (y : Placement) (scale : ℕ) (rows : List (List ℤ)) (facilities locations : List ℕ) (alpha beta : List ℤ) → facilities ≡ free_facilities y → locations ≡ free_locations y
    → IsLayers (length facilities) (λ j i k. number_of rows i j (i * length facilities + k) 0) alpha → IsLayers (length facilities) (λ l i k. number_of rows k l (i * length facilities + k) (length facilities - 1)) beta
    → AreListed y (rows_of scale rows) (duals_of y.size facilities locations scale alpha beta)
AreListed-made y scale rows facilities locations alpha beta fs ls a b =
    let m = length facilities in
    record {
      of = record { size = refl; facilities = fs; locations = ls };
      scale = refl;
      alpha_count = a.count;
      beta_count = b.count;
      alpha = λ i k t hi hk ht. a.each (past i t) i k (past-in m i t hi ht) hi hk ∙ number_of-past rows i t (i * m + k) 0 ∙ (let none : 0 + t ≡ t = omega arith in ap (λ p. get_or (get_or rows (i * m + k) []) p (pos 0)) none);
      beta = λ i k t hi hk ht. b.each (past k t) i k (past-in m k t hk ht) hi hk ∙ number_of-past rows k t (i * m + k) (m - 1);
      alpha_itself = λ i k hi hk. a.each i i k hi hi hk ∙ number_of-itself rows i (i * m + k) 0;
      beta_itself = λ i k hi hk. b.each k i k hk hi hk ∙ number_of-itself rows k (i * m + k) (m - 1);
    }

-- the same where the count of the free facilities is given by itself
pub AreListed-counted : (y : Placement) (scale m : ℕ) (rows : List (List ℤ)) (facilities locations : List ℕ) (alpha beta : List ℤ) → m ≡ length facilities → facilities ≡ free_facilities y → locations ≡ free_locations y
    → IsLayers m (λ j i k. number_of rows i j (i * m + k) 0) alpha → IsLayers m (λ l i k. number_of rows k l (i * m + k) (m - 1)) beta → AreListed y (rows_of scale rows) (duals_of y.size facilities locations scale alpha beta)
AreListed-counted y scale m rows facilities locations alpha beta same fs ls a b =
    AreListed-made y scale rows facilities locations alpha beta fs ls
    (subst (λ (n : ℕ). IsLayers n (λ j i k. number_of rows i j (i * n + k) 0) alpha) same a)
    (subst (λ (n : ℕ). IsLayers n (λ l i k. number_of rows k l (i * n + k) (n - 1)) beta) same b)
