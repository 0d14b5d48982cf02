-- Numbers that are put at distinct positions, one after another.
use Rattle.std.proofs.Common.{◌≡◌, ◌≢◌, ℕ, ◌+◌, ◌<◌, List, length, get_or, set, ◌∙◌, ap, sym, arith, get_or-set_same, get_or-set_other, below_more}
use Rattle.qap_cost.specs.Bijection.{AreDifferent}

-- the first n values have been put at their positions, and all else is unchanged
pub record HasPut (positions values old new : List ℕ) (n : ℕ) : Type 0 where
  pub long : length new ≡ length old
  pub put : (t : ℕ) → t < n → get_or new (get_or positions t 0) 0 ≡ get_or values t 0
  pub kept : (i : ℕ) → ((t : ℕ) → t < n → get_or positions t 0 ≢ i) → get_or new i 0 ≡ get_or old i 0

-- one value more
pub HasPut-more : (positions values old new : List ℕ) (n k x : ℕ) → AreDifferent (length old) positions → n < length positions → HasPut positions values old new n → k ≡ get_or positions n 0 → x ≡ get_or values n 0 → length (set new k x) ≡ length new → HasPut positions values old (set new k x) (n + 1)
HasPut-more positions values old new n k x different below h is value long = record {
  long = long ∙ h.long;
  put = below_more _ _
      (λ t less.
      let other : get_or positions t 0 ≢ k = λ e. (let same = different.distinct t n (omega arith) below (e ∙ is) in omega arith) in
      get_or-set_other new k (get_or positions t 0) x 0 other ∙ h.put t less)
      (ap (λ (j : ℕ). get_or (set new k x) j 0) (sym is)
      ∙ get_or-set_same new k x 0 (let within = different.within n below in let same = h.long in omega arith) ∙ value);
  kept = λ i none.
      let other : i ≢ k = λ e. none n (omega arith) (sym is ∙ sym e) in
      get_or-set_other new k i x 0 other ∙ h.kept i (λ t less. none t (omega arith));
}
