-- Square matrices, listed by rows, of which one entry after the other is written.
use Rattle.std.proofs.Common.{◌≡◌, ◌≢◌, ℕ, suc, ◌+◌, ◌*◌, ◌<◌, ◌≤◌, arith, refl, sym, ◌∙◌, ap, List, length, get_or, set, inl, inr, get_or-set_other, get_or-set_same}
use Rattle.std.specs.Prelude.{ℤ, pos}
use Rattle.std.proofs.lemmas.Bool.{cases_lt}
use Rattle.std.proofs.lemmas.List.{length-set}
use Rattle.std.proofs.lemmas.Nat.{mul-le}
use Rattle.qap_cost.specs.Instance.{entry}
use Rattle.pair_duals.specs.Filling.{AreEntries, FillsPart, FillsRows}

-- no entry of the row was written yet
pub FillsPart-none : (m : ℕ) (f : ℕ → ℕ → ℤ) (r : ℕ) (xs : List ℤ) → FillsPart m f r 0 xs xs
FillsPart-none m f r xs = record {
  same_length = refl;
  row = λ c h. absurd (omega arith);
  before = λ k h. refl;
  after = λ k h. refl;
}

-- one entry more was written
pub FillsPart-more : (m : ℕ) (f : ℕ → ℕ → ℤ) (r c : ℕ) (old new : List ℤ) (x : ℤ) → FillsPart m f r c old new → r * m + c < length new → x ≡ f r c → FillsPart m f r (c + 1) old (set new (r * m + c) x)
FillsPart-more m f r c old new x h inside is =
    let other : (k : ℕ) → k ≢ r * m + c → get_or (set new (r * m + c) x) k (pos 0) ≡ get_or new k (pos 0) = λ k apart. get_or-set_other new (r * m + c) k x (pos 0) apart in
    record {
      same_length = length-set new (r * m + c) x ∙ h.same_length;
      row = λ d hd.
          elim (cases_lt d c) [
            | inl less ↦ other (r * m + d) (λ e. omega arith) ∙ h.row d less
            | inr more ↦
                let e : d ≡ c = omega arith in
                ap (λ k. get_or (set new (r * m + c) x) (r * m + k) (pos 0)) e ∙ get_or-set_same new (r * m + c) x (pos 0) inside ∙ is ∙ ap (f r) (sym e)
          ];
      before = λ k hk. other k (λ e. omega arith) ∙ h.before k hk;
      after = λ k hk. other k (λ e. omega arith) ∙ h.after k (omega arith);
    }

-- the same for numbers that are the same in what was written of the row
pub FillsPart-along : (m : ℕ) (f g : ℕ → ℕ → ℤ) (r count : ℕ) (old new : List ℤ) → FillsPart m f r count old new → ((c : ℕ) → c < count → f r c ≡ g r c) → FillsPart m g r count old new
FillsPart-along m f g r count old new h same = record {
  same_length = h.same_length;
  row = λ c hc. h.row c hc ∙ same c hc;
  before = h.before;
  after = h.after;
}

-- no row was written yet
pub FillsRows-none : (m : ℕ) (f : ℕ → ℕ → ℤ) (xs : List ℤ) → FillsRows m f 0 xs xs
FillsRows-none m f xs = record { same_length = refl; rows = λ r c hr hc. absurd (omega arith); after = λ k h. refl }

-- a row before another ends before it
pub row_before : (m r s : ℕ) → r < s → r * m + m ≤ s * m
row_before m r s h = let e : suc r * m ≤ s * m = mul-le _ _ _ _ h (omega arith) in omega (arith, e)

-- one row more was written
pub FillsRows-more : (m : ℕ) (f : ℕ → ℕ → ℤ) (r : ℕ) (old mid new : List ℤ) → FillsRows m f r old mid → FillsPart m f r m mid new → FillsRows m f (r + 1) old new
FillsRows-more m f r old mid new h part = record {
  same_length = part.same_length ∙ h.same_length;
  rows = λ s c hs hc.
      elim (cases_lt s r) [
        | inl less ↦ part.before (s * m + c) (omega (arith, row_before m s r less)) ∙ h.rows s c less hc
        | inr more ↦
            let e : s ≡ r = omega arith in
            ap (λ k. entry m new k c) e ∙ part.row c hc ∙ ap (λ k. f k c) (sym e)
      ];
  after = λ k hk.
      let far : r * m + m ≤ k = omega arith in
      part.after k far ∙ h.after k (omega (arith, far));
}

-- once all rows were written, they are the entries
pub AreEntries-filled : (m : ℕ) (f : ℕ → ℕ → ℤ) (old new : List ℤ) → FillsRows m f m old new → AreEntries m f new
AreEntries-filled m f old new h = record { entries = h.rows }
