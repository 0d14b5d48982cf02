-- One more dual of the tree's rows or columns is changed.
use Rattle.std.proofs.Common.{◌≡◌, ◌≢◌, ℕ, ◌+◌, ◌<◌, List, length, get_or, set, arith, sym, ◌∙◌, subst, inl, inr, get_or-set_other, get_or-set_same}
use Rattle.std.specs.Prelude.{ℤ, pos, ◌+ℤ◌, ◌-ℤ◌}
use Rattle.std.proofs.lemmas.Int.{ints}
use Rattle.std.proofs.lemmas.Bool.{cases_eq}
use Rattle.qap_cost.specs.Bijection.{IsBijection}
use Rattle.assign_dual.specs.Steps.{RaisesRows, LowersColumns}
use Rattle.assign_dual.specs.Number.{number_at}

-- with the dual of the tree's row at place p raised, those of its first p + 1 rows are
pub RaisesRows-more : (tree_rows : List ℕ) (row_distances : List ℤ) (p : ℕ) (path : ℤ) (u new : List ℤ) (value : ℤ) →
    RaisesRows tree_rows row_distances p path u new → get_or tree_rows p 0 < length new →
    ((s : ℕ) → s < p → get_or tree_rows s 0 ≢ get_or tree_rows p 0) →
    value ≡ number_at new (get_or tree_rows p 0) +ℤ (path -ℤ number_at row_distances p) →
    RaisesRows tree_rows row_distances (p + 1) path u (set new (get_or tree_rows p 0) value)
RaisesRows-more tree_rows row_distances p path u new value h within apart is =
    let i = get_or tree_rows p 0 in
    let old : number_at new i ≡ number_at u i = h.others i apart in
    let here : number_at (set new i value) i ≡ value = get_or-set_same new i value (pos 0) within in
    record {
      tree = λ s lt.
          elim (cases_eq s p) [
            | inl e ↦
                let now : number_at (set new i value) i ≡ number_at u i +ℤ (path -ℤ number_at row_distances p) = omega (arith, ints) in
                subst (λ (t : ℕ). number_at (set new i value) (get_or tree_rows t 0) ≡ number_at u (get_or tree_rows t 0) +ℤ (path -ℤ number_at row_distances t)) (sym e) now
            | inr ne ↦
                let less : s < p = omega arith in
                get_or-set_other new i (get_or tree_rows s 0) value (pos 0) (apart s less) ∙ h.tree s less
          ];
      others = λ j none. get_or-set_other new i j value (pos 0) (λ e. none p (omega arith) (sym e)) ∙ h.others j (λ s lt. none s (omega arith));
    }

-- with the dual of the column at place q lowered, those of the first q + 1 columns are
pub LowersColumns-more : (columns : List ℕ) (distances : List ℤ) (q : ℕ) (path : ℤ) (v new : List ℤ) (value : ℤ) →
    IsBijection columns → length new ≡ length columns → q < length columns → LowersColumns columns distances q path v new →
    value ≡ number_at new (get_or columns q 0) -ℤ (path -ℤ number_at distances (get_or columns q 0)) →
    LowersColumns columns distances (q + 1) path v (set new (get_or columns q 0) value)
LowersColumns-more columns distances q path v new value order count below h is =
    let k = get_or columns q 0 in
    let within : k < length new = omega (arith, count, order.within q below) in
    let old : number_at new k ≡ number_at v k = h.others q (omega arith) below in
    let here : number_at (set new k value) k ≡ value = get_or-set_same new k value (pos 0) within in
    let apart : (s : ℕ) → s < length columns → (s ≡ q → ⊥) → get_or columns s 0 ≢ k = λ s hs ne e. ne (order.distinct s q hs below e) in
    record {
      scanned = λ s lt.
          elim (cases_eq s q) [
            | inl e ↦
                let now : number_at (set new k value) k ≡ number_at v k -ℤ (path -ℤ number_at distances k) = omega (arith, ints) in
                subst (λ (t : ℕ). number_at (set new k value) (get_or columns t 0) ≡ number_at v (get_or columns t 0) -ℤ (path -ℤ number_at distances (get_or columns t 0))) (sym e) now
            | inr ne ↦
                let less : s < q = omega arith in
                get_or-set_other new k (get_or columns s 0) value (pos 0) (apart s (omega arith) ne) ∙ h.scanned s less
          ];
      others = λ s from hs.
          get_or-set_other new k (get_or columns s 0) value (pos 0) (apart s hs (λ e. omega arith)) ∙ h.others s (omega arith) hs;
    }
