-- The least numbers of the rows and the columns of a matrix, one row after the other.
use Rattle.std.proofs.Common.{◌≡◌, ℕ, ◌+◌, ◌*◌, ◌<◌, ◌≤◌, arith, refl, sym, ◌∙◌, ap, subst, List, length, get_or, set, inl, inr, get_or-set_other, get_or-set_same}
use Rattle.std.specs.Prelude.{ℤ, pos, ◌-ℤ◌, ◌≤ℤ◌, ◌<ℤ◌, unsigned_abs}
use Rattle.std.proofs.lemmas.Int.{ints}
use Rattle.std.proofs.lemmas.Bool.{cases_lt}
use Rattle.std.proofs.lemmas.List.{length-set}
use Rattle.qap_cost.specs.Instance.{entry}
use Rattle.qap_cost.specs.Range.{AllWithin}
use Rattle.pair_duals.specs.Filling.{AreEntries}
use Rattle.pair_duals.specs.Lines.{AreLeastSoFar, IsSmaller, LowersBy, TakesRow}
use Rattle.pair_duals.specs.Range.{IsSpread}
use Rattle.pair_duals.specs.Reduced.{AreLeast, IsLeast, less_both, less_row}
use Rattle.pair_duals.proofs.Widths.{entry-within, entry-apart, IsSpread-from_entries}

-- one more, of which the smaller is taken
pub IsLeast-more : (f : ℕ → ℤ) (n : ℕ) (old new : ℤ) → IsLeast f n old → IsSmaller old (f n) new → IsLeast f (n + 1) new
IsLeast-more f n old new h s = record {
  below = λ r hr.
      elim (cases_lt r n) [
        | inl less ↦ let b = h.below r less in let a = s.first in omega (arith, ints, a, b)
        | inr more ↦
            let e : r ≡ n = omega arith in
            let a = s.second in
            subst (λ (k : ℕ). new ≤ℤ f k) (sym e) a
      ];
  reached = elim s.one [
    | inl same ↦ (h.reached.0, omega (arith, h.reached.1), same ∙ h.reached.2)
    | inr same ↦ (n, omega arith, same)
  ];
}

-- one number alone is the least
pub IsLeast-one : (f : ℕ → ℤ) (x : ℤ) → x ≡ f 0 → IsLeast f 1 x
IsLeast-one f x is = record {
  below = λ r hr. let e : r ≡ 0 = omega arith in let same = is ∙ ap f (sym e) in omega (arith, ints, same);
  reached = (0, omega arith, is);
}

-- the second number is the smaller one where it is less
pub smaller_of : (x y least : ℤ) → (y <ℤ x) × (least ≡ y) → IsSmaller x y least
smaller_of x y least h = record { first = omega (arith, ints, h); second = omega (arith, ints, h); one = inr h.1 }

-- the first row, less its number
pub AreLeastSoFar-first : (m : ℕ) (entries u v : List ℤ) → length v ≡ m → TakesRow entries (get_or u 0 (pos 0)) v → AreLeastSoFar m entries u 1 v
AreLeastSoFar-first m entries u v count h = record {
  count = count;
  least = λ c hc.
      let at : 0 * m + c ≡ c = omega arith in
      IsLeast-one (less_row m entries u c) (get_or v c (pos 0))
      (h.each c (omega (arith, count)) ∙ ap (λ k. get_or entries k (pos 0) -ℤ get_or u 0 (pos 0)) (sym at));
}

-- one row more, by which the numbers are lowered
pub AreLeastSoFar-more : (m : ℕ) (entries u : List ℤ) (r : ℕ) (old new : List ℤ) → AreLeastSoFar m entries u r old → LowersBy entries (r * m) (get_or u r (pos 0)) old new → AreLeastSoFar m entries u (r + 1) new
AreLeastSoFar-more m entries u r old new h low = record {
  count = low.same_length ∙ h.count;
  least = λ c hc. IsLeast-more (less_row m entries u c) r (get_or old c (pos 0)) (get_or new c (pos 0)) (h.least c hc) (low.each c (omega (arith, h.count)));
}

-- as far as the rows have been taken
pub record HasTaken (m : ℕ) (entries u : List ℤ) (rows : ℕ) (v : List ℤ) : Type 0 where
  pub count : length v ≡ m
  pub least : 0 < rows → AreLeastSoFar m entries u rows v

-- once all rows were taken, they are the least numbers of the columns
pub AreLeast-taken : (m : ℕ) (entries u v : List ℤ) → HasTaken m entries u m v → AreLeast m entries u v
AreLeast-taken m entries u v h = record { count = h.count; least = λ c hc. (h.least (omega arith)).least c hc }

-- ---- what a line leaves

-- how far from 0 the least numbers lie
pub least-within : (far limit m : ℕ) (entries u v : List ℤ) (c : ℕ) → length entries ≡ m * m → IsSpread far entries → AllWithin limit u → length u ≡ m → AreLeast m entries u v → c < m → unsigned_abs (get_or v c (pos 0)) ≤ far + limit
least-within far limit m entries u v c count s range long least hc =
    let r = (least.least c hc).reached in
    let e = entry-within far m entries r.0 c count s r.1 hc in
    let x = range.each r.0 (omega (arith, long, r.1)) in
    let is = r.2 in
    omega (arith, ints, e, x, is)

-- an entry less both numbers is at least 0, and no more than the spread and twice the limit
pub line-between : (far limit m : ℕ) (entries u v : List ℤ) (r c : ℕ) → length entries ≡ m * m → IsSpread far entries → AllWithin limit u → length u ≡ m → AreLeast m entries u v → r < m → c < m
    → (pos 0 ≤ℤ less_both m entries u v r c) × (less_both m entries u v r c ≤ℤ pos (far + 2 * limit))
line-between far limit m entries u v r c count s range long least hr hc =
    let at = least.least c hc in
    let q = at.reached in
    let below = at.below r hr in
    let apart = entry-apart far m entries r c q.0 c count s hr hc q.1 hc in
    let x = range.each q.0 (omega (arith, long, q.1)) in
    let y = range.each r (omega (arith, long)) in
    let is = q.2 in (
      omega (arith, ints, below),
      omega (arith, ints, apart, x, y, is),
    )

-- so the entries that a line leaves are spread no further than that
pub IsSpread-line : (far limit m : ℕ) (entries u v new : List ℤ) → length entries ≡ m * m → length new ≡ m * m → IsSpread far entries → AllWithin limit u → length u ≡ m → AreLeast m entries u v → AreEntries m (less_both m entries u v) new → IsSpread (far + 2 * limit) new
IsSpread-line far limit m entries u v new count new_count s range long least is =
    let between : (r c : ℕ) → r < m → c < m → (pos 0 ≤ℤ entry m new r c) × (entry m new r c ≤ℤ pos (far + 2 * limit)) = λ r c hr hc.
    subst (λ (z : ℤ). (pos 0 ≤ℤ z) × (z ≤ℤ pos (far + 2 * limit))) (sym (is.entries r c hr hc)) (line-between far limit m entries u v r c count s range long least hr hc) in
    IsSpread-from_entries (far + 2 * limit) m new new_count
    (λ r c hr hc. let b = between r c hr hc in omega (arith, ints, b))
    (λ r c q d hr hc hq hd. let a = between r c hr hc in let b = between q d hq hd in omega (arith, ints, a, b))

-- ---- as loops go

-- the first so many numbers are the entries less a number
pub record TakesPart (entries : List ℤ) (own : ℤ) (count : ℕ) (least : List ℤ) : Type 0 where
  pub each : (c : ℕ) → c < count → get_or least c (pos 0) ≡ get_or entries c (pos 0) -ℤ own

-- one number more
pub TakesPart-more : (entries : List ℤ) (own : ℤ) (c : ℕ) (least : List ℤ) (x : ℤ) → TakesPart entries own c least → c < length least → x ≡ get_or entries c (pos 0) -ℤ own → TakesPart entries own (c + 1) (set least c x)
TakesPart-more entries own c least x h inside is = record {
  each = λ d hd.
      elim (cases_lt d c) [
        | inl less ↦ get_or-set_other least c d x (pos 0) (λ e. omega arith) ∙ h.each d less
        | inr more ↦
            let e : d ≡ c = omega arith in
            ap (λ k. get_or (set least c x) k (pos 0)) e ∙ get_or-set_same least c x (pos 0) inside ∙ is ∙ ap (λ k. get_or entries k (pos 0) -ℤ own) (sym e)
      ];
}

-- the first so many numbers were lowered
pub record LowersPart (entries : List ℤ) (start : ℕ) (own : ℤ) (count : ℕ) (old new : List ℤ) : Type 0 where
  pub same_length : length new ≡ length old
  pub each : (c : ℕ) → c < count → IsSmaller (get_or old c (pos 0)) (get_or entries (start + c) (pos 0) -ℤ own) (get_or new c (pos 0))
  pub after : (c : ℕ) → count ≤ c → get_or new c (pos 0) ≡ get_or old c (pos 0)

-- no number was lowered yet
pub LowersPart-none : (entries : List ℤ) (start : ℕ) (own : ℤ) (xs : List ℤ) → LowersPart entries start own 0 xs xs
LowersPart-none entries start own xs = record { same_length = refl; each = λ c h. absurd (omega arith); after = λ c h. refl }

-- the next one is written
pub LowersPart-written : (entries : List ℤ) (start : ℕ) (own : ℤ) (c : ℕ) (old new : List ℤ) (x : ℤ) → LowersPart entries start own c old new → c < length new → IsSmaller (get_or new c (pos 0)) (get_or entries (start + c) (pos 0) -ℤ own) x → LowersPart entries start own (c + 1) old (set new c x)
LowersPart-written entries start own c old new x h inside s = record {
  same_length = length-set new c x ∙ h.same_length;
  each = λ d hd.
      elim (cases_lt d c) [
        | inl less ↦ subst (λ (z : ℤ). IsSmaller (get_or old d (pos 0)) (get_or entries (start + d) (pos 0) -ℤ own) z) (sym (get_or-set_other new c d x (pos 0) (λ e. omega arith))) (h.each d less)
        | inr more ↦
            let e : c ≡ d = omega arith in
            subst (λ (k : ℕ). IsSmaller (get_or old k (pos 0)) (get_or entries (start + k) (pos 0) -ℤ own) (get_or (set new c x) k (pos 0))) e
            (subst (λ (z : ℤ). IsSmaller (get_or old c (pos 0)) (get_or entries (start + c) (pos 0) -ℤ own) z) (sym (get_or-set_same new c x (pos 0) inside))
            (subst (λ (z : ℤ). IsSmaller z (get_or entries (start + c) (pos 0) -ℤ own) x) (h.after c (omega arith)) s))
      ];
  after = λ d hd. get_or-set_other new c d x (pos 0) (λ e. omega arith) ∙ h.after d (omega arith);
}

-- once all were lowered, the whole list is
pub LowersBy-all : (entries : List ℤ) (start : ℕ) (own : ℤ) (count : ℕ) (old new : List ℤ) → length old ≡ count → LowersPart entries start own count old new → LowersBy entries start own old new
LowersBy-all entries start own count old new e h = record { same_length = h.same_length; each = λ c hc. h.each c (omega (arith, e)) }

-- the first so many numbers are the least of their rows
pub record HasRowLeasts (m : ℕ) (entries : List ℤ) (rows : ℕ) (u : List ℤ) : Type 0 where
  pub count : length u ≡ m
  pub least : (r : ℕ) → r < rows → IsLeast (entry m entries r) m (get_or u r (pos 0))

-- one row more
pub HasRowLeasts-more : (m : ℕ) (entries : List ℤ) (r : ℕ) (u : List ℤ) (x : ℤ) → HasRowLeasts m entries r u → r < m → IsLeast (entry m entries r) m x → HasRowLeasts m entries (r + 1) (set u r x)
HasRowLeasts-more m entries r u x h inside is = record {
  count = length-set u r x ∙ h.count;
  least = λ s hs.
      elim (cases_lt s r) [
        | inl less ↦ subst (IsLeast (entry m entries s) m) (sym (get_or-set_other u r s x (pos 0) (λ e. omega arith))) (h.least s less)
        | inr more ↦
            let e : r ≡ s = omega arith in
            subst (λ (k : ℕ). IsLeast (entry m entries k) m (get_or (set u r x) k (pos 0))) e (subst (IsLeast (entry m entries r) m) (sym (get_or-set_same u r x (pos 0) (omega (arith, h.count)))) is)
      ];
}

-- the first number is the smaller one where it is no more than the second
pub IsSmaller-kept : (x y least : ℤ) → x ≤ℤ y → least ≡ x → IsSmaller x y least
IsSmaller-kept x y least low same = record { first = omega (arith, ints, same); second = omega (arith, ints, same, low); one = inl same }
