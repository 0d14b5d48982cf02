-- Rows list the pair duals of one node only once.
use Rattle.std.proofs.Common.{◌≡◌, ℕ, ◌+◌, ◌-◌, ◌*◌, ◌<◌, ◌≤◌, ◌/◌, ◌%◌, List, length, get_or, ℤ, pos, sym, ◌∙◌, ap, subst, inl, inr, arith}
use Rattle.std.specs.Prelude.{nat_lt}
use Rattle.std.proofs.Math.Nat.{div-add-mod, mod-lt}
use Rattle.std.proofs.lemmas.Bool.{cases_eq, cases_lt, cond-true, cond-false, lt-ltb, le-ltb}
use Rattle.std.proofs.lemmas.List.{same_lists, get_or_default}
use Rattle.qap_cost.specs.Placement.{Placement}
use Rattle.pair_duals.specs.PairDuals.{Duals, cube, in_layers}
use Rattle.pair_duals.specs.Reduced.{past}
use Rattle.proof_tree.specs.Tree.{PairRows}
use Rattle.proof_tree.specs.Valid.{AreListed, in_row}
use Rattle.proof_check.proofs.Layers.{layer_within, positive}
use Rattle.proof_check.proofs.ListedDuals.{duals_of}

-- the place of a number by its layer, row and column
pub place_is : (m place : ℕ) → 0 < m → ((place / m / m) * m + (place / m % m)) * m + place % m ≡ place
place_is m place some =
    let low = div-add-mod place m in
    let high = div-add-mod (place / m) m in
    let turned : (place / m / m) * m + (place / m % m) ≡ place / m = omega (arith, high) in
    ap (λ k. k * m + place % m) turned ∙ omega (arith, low)

-- layers with equal numbers are one list
pub one_list_of_layers : (m : ℕ) (xs ys : List ℤ) → length xs ≡ cube m → length ys ≡ cube m → ((j i k : ℕ) → j < m → i < m → k < m → in_layers m xs j i k ≡ in_layers m ys j i k) → xs ≡ ys
one_list_of_layers m xs ys hx hy same =
    same_lists xs ys (hx ∙ sym hy) (λ place d below.
    let inside : place < (m * m) * m = omega (arith, hx, below) in
    let some = positive m place inside in
    let at = place_is m place some in
    let e = same (place / m / m) (place / m % m) (place % m) (layer_within m place inside) (mod-lt (place / m) some) (mod-lt place some) in
    sym (get_or_default xs place (pos 0) d (omega (arith, below))) ∙ sym (ap (λ p. get_or xs p (pos 0)) at) ∙ e ∙ ap (λ p. get_or ys p (pos 0)) at ∙ get_or_default ys place (pos 0) d (omega (arith, hx, hy, below)))

-- each number is that of another one, or its own
other_cases : (P : ℕ → Type 0) (m own j : ℕ) → own < m → j < m → P own → ((t : ℕ) → t + 1 < m → P (past own t)) → P j
other_cases P m own j ho hj itself other =
    elim (cases_eq j own) [
      | inl same ↦ subst P (sym same) itself
      | inr differs ↦
          elim (cases_lt j own) [
            | inl less ↦ subst P (cond-true (nat_lt j own) j (j + 1) (lt-ltb j own less)) (other j (omega (arith, less, ho)))
            | inr more ↦
                let back : j - 1 + 1 ≡ j = omega (arith, more, differs) in
                let high : own ≤ j - 1 = omega (arith, more, differs) in
                subst P (cond-false (nat_lt (j - 1) own) (j - 1) (j - 1 + 1) (le-ltb (j - 1) own high) ∙ back) (other (j - 1) (omega (arith, back, hj)))
          ]
    ]

-- rows list one set of pair duals of a node
pub one_duals : (y : Placement) (P : PairRows) (D E : Duals) → AreListed y P D → AreListed y P E → D ≡ E
one_duals y P D E h k =
    let fs : D.facilities ≡ E.facilities = h.of.facilities ∙ sym k.of.facilities in
    let m = length D.facilities in
    let count : length E.facilities ≡ m = ap length (sym fs) in
    let alphas : D.alpha ≡ E.alpha =
    one_list_of_layers m D.alpha E.alpha h.alpha_count (k.alpha_count ∙ ap cube count) (λ j i c hj hi hc.
    other_cases (λ t. in_layers m D.alpha t i c ≡ in_layers m E.alpha t i c) m i j hi hj
    (h.alpha_itself i c hi hc ∙ sym (subst (λ (n : ℕ). in_layers n E.alpha i i c ≡ pos 0) count (k.alpha_itself i c (omega (arith, count, hi)) (omega (arith, count, hc)))))
    (λ t ht. h.alpha i c t hi hc ht ∙ sym (subst (λ (n : ℕ). in_layers n E.alpha (past i t) i c ≡ in_row P n i c t) count (k.alpha i c t (omega (arith, count, hi)) (omega (arith, count, hc)) (omega (arith, count, ht)))))) in
    let betas : D.beta ≡ E.beta =
    one_list_of_layers m D.beta E.beta h.beta_count (k.beta_count ∙ ap cube count) (λ l i c hl hi hc.
    other_cases (λ t. in_layers m D.beta t i c ≡ in_layers m E.beta t i c) m c l hc hl
    (h.beta_itself i c hi hc ∙ sym (subst (λ (n : ℕ). in_layers n E.beta c i c ≡ pos 0) count (k.beta_itself i c (omega (arith, count, hi)) (omega (arith, count, hc)))))
    (λ t ht. h.beta i c t hi hc ht ∙ sym (subst (λ (n : ℕ). in_layers n E.beta (past c t) i c ≡ in_row P n i c ((n - 1) + t)) count (k.beta i c t (omega (arith, count, hi)) (omega (arith, count, hc)) (omega (arith, count, ht)))))) in
    let sizes = h.of.size ∙ sym k.of.size in
    let ls = h.of.locations ∙ sym k.of.locations in
    let scales = h.scale ∙ sym k.scale in
    λ i. duals_of (sizes i) (fs i) (ls i) (scales i) (alphas i) (betas i)
