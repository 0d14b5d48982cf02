-- Raised charges keep facilities off forbidden locations.
use Rattle.std.proofs.Common.{◌≡◌, ◌∙◌, ℕ, ◌+◌, ◌-◌, ◌*◌, ◌<◌, ◌≤◌, true, false, List, ap, ap₂, arith, get_or, nat_eq, refl, subst, sym, inl, inr}
use Rattle.std.specs.Prelude.{ℤ, pos, negsuc, ◌+ℤ◌, ◌-ℤ◌, ◌*ℤ◌, ◌≤ℤ◌, ◌<ℤ◌, nat_lt, if◌then◌else◌}
use Rattle.std.proofs.lemmas.Bool.{cases_lt, cond-true, cond-false, le-ltb, lt-ltb, true≢false}
use Rattle.std.proofs.lemmas.Int.{ints}
use Rattle.std.proofs.lemmas.Nat.{mul-add-lt, div-mul-add, mod-mul-add}
use borrow.Author.Differences.{product_is}
use Rattle.qap_cost.specs.Instance.{InRange, Problem}
use Rattle.qap_cost.specs.Objective.{Permutes}
use Rattle.qap_cost.specs.Sum.{sum_to}
use Rattle.qap_cost.proofs.Sums.{*ℤ-+ℤ, only_at, sum_to-add, sum_to-monotone, sum_to-only_at, sum_to-same, sum_to-zero}
use Rattle.plan_charge.specs.Charges.{AreCharges, charge_at, charged, cost_with, paid}
use Rattle.plan_charge.specs.Extended.{IsTable}
use Rattle.plan_charge.specs.Forbidden.{AreForbidden, UsesNone, UsesSome, is_forbidden}
use Rattle.plan_charge.specs.Forbidding.{Forbids, IsFull, IsPassed, IsPenalty, IsRaised, base_at, raised_at}
use Rattle.plan_charge.specs.Spread.{spread}
use Rattle.plan_charge.specs.declared.charges.Charges.{Charges}
use Rattle.plan_charge.specs.declared.forbidden.Forbidden.{Forbidden}
use Rattle.plan_charge.specs.declared.penalty.Penalty.{Penalty}
use Rattle.plan_charge.proofs.Charged.{sum_to-split}
use Rattle.plan_charge.proofs.Spreads.{spread-le, times-least}

times_zero : (z : ℤ) → z *ℤ pos 0 ≡ pos 0
times_zero z = omega (arith, ints)

-- what facility i paid at its location
abbrev pub paid_before : ℕ → Charges → Penalty → List ℕ → ℕ → ℤ
paid_before n old x p i = x.weight *ℤ base_at n old i (get_or p i 0)

-- what it pays above that
abbrev pub paid_above : ℕ → Forbidden → Penalty → List ℕ → ℕ → ℤ
paid_above n f x p i = x.weight *ℤ (if is_forbidden n f i (get_or p i 0) then x.step else pos 0)

inside : (I : Problem) (p : List ℕ) (i : ℕ) → Permutes I p → i < I.size → get_or p i 0 < I.size
inside I p i perm below = omega (arith, perm.same_size, perm.bijection.within i (omega (arith, perm.same_size, below)))

paid-parts : (I : Problem) (old : Charges) (f : Forbidden) (x : Penalty) (c : Charges) (p : List ℕ) (i : ℕ) → IsRaised I.size old f x c → Permutes I p → i < c.count
    → paid I.size c p i ≡ paid_before I.size old x p i +ℤ paid_above I.size f x p i
paid-parts I old f x c p i raised perm below =
    let k = get_or p i 0 in
    let column : k < I.size = inside I p i perm (omega (arith, below, raised.charges.payers)) in
    ap₂ ◌*ℤ◌ raised.weight (raised.entry i k below column)
    ∙ *ℤ-+ℤ x.weight (base_at I.size old i k) (if is_forbidden I.size f i k then x.step else pos 0)

-- what all paid
paid_before-all : (n count : ℕ) (old : Charges) (x : Penalty) (p : List ℕ) → (0 < old.count → x.weight ≡ old.weight) → old.count ≤ count → sum_to (paid_before n old x p) count ≡ charged n old p
paid_before-all n count old x p kept most =
    let g = paid_before n old x p in
    let m = old.count in
    let rest = count - m in
    let whole : count ≡ m + rest = omega (arith, most) in
    let same : sum_to g m ≡ charged n old p =
    sum_to-same g (paid n old p) m (λ i below.
    ap₂ ◌*ℤ◌ (kept (omega (arith, below))) (cond-true (nat_lt i m) (charge_at n old i (get_or p i 0)) (pos 0) (lt-ltb i m below))) in
    let none : sum_to (λ r. g (m + r)) rest ≡ pos 0 =
    sum_to-zero (λ r. g (m + r)) rest (λ r below.
    ap (λ z. x.weight *ℤ z) (cond-false (nat_lt (m + r) m) (charge_at n old (m + r) (get_or p (m + r) 0)) (pos 0) (le-ltb (m + r) m (omega arith)))
    ∙ times_zero x.weight) in
    let parts : sum_to g count ≡ sum_to g m +ℤ sum_to (λ r. g (m + r)) rest = ap (sum_to g) whole ∙ sum_to-split g m rest in
    omega (arith, ints, same, none, parts)

-- what all pay: what they paid, and what they pay above that
charged-parts : (I : Problem) (old : Charges) (f : Forbidden) (x : Penalty) (c : Charges) (p : List ℕ) → (0 < old.count → x.weight ≡ old.weight) → IsRaised I.size old f x c → Permutes I p
    → charged I.size c p ≡ charged I.size old p +ℤ sum_to (paid_above I.size f x p) c.count
charged-parts I old f x c p kept raised perm =
    sum_to-same (paid I.size c p) (λ i. paid_before I.size old x p i +ℤ paid_above I.size f x p i) c.count (λ i below. paid-parts I old f x c p i raised perm below)
    ∙ sum_to-add (paid_before I.size old x p) (paid_above I.size f x p) c.count
    ∙ ap (λ z. z +ℤ sum_to (paid_above I.size f x p) c.count) (paid_before-all I.size c.count old x p kept raised.payers)

-- a facility without forbidden locations has none
unforbidden : (n : ℕ) (f : Forbidden) (i k : ℕ) → f.count ≤ i → is_forbidden n f i k ≡ false
unforbidden n f i k past = cond-false (nat_lt i f.count) (get_or f.cells.items (i * n + k) false) false (le-ltb i f.count past)

-- nothing is paid above where no forbidden location is used
above-none : (n count : ℕ) (f : Forbidden) (x : Penalty) (p : List ℕ) → UsesNone n f p → sum_to (paid_above n f x p) count ≡ pos 0
above-none n count f x p none =
    let free : (i : ℕ) → is_forbidden n f i (get_or p i 0) ≡ false =
    λ i.
    elim (cases_lt i f.count) [
      | inl row ↦ none i row
      | inr past ↦ unforbidden n f i (get_or p i 0) past
    ] in
    sum_to-zero (paid_above n f x p) count (λ i below.
    ap (λ z. x.weight *ℤ z) (cond-false (is_forbidden n f i (get_or p i 0)) x.step (pos 0) (free i)) ∙ times_zero x.weight)

-- where a penalty is paid, all pay at least that
above-some : (n count : ℕ) (f : Forbidden) (x : Penalty) (q : List ℕ) → pos 0 ≤ℤ (x.weight *ℤ x.step) → f.count ≤ count → UsesSome n f q → (x.weight *ℤ x.step) ≤ℤ sum_to (paid_above n f x q) count
above-some n count f x q positive most some =
    let g = paid_above n f x q in
    let at = some.facility in
    let full : (i : ℕ) → is_forbidden n f i (get_or q i 0) ≡ true → g i ≡ x.weight *ℤ x.step =
    λ i taken. ap (λ z. x.weight *ℤ z) (cond-true (is_forbidden n f i (get_or q i 0)) x.step (pos 0) taken) in
    let free : (i : ℕ) → is_forbidden n f i (get_or q i 0) ≡ false → g i ≡ pos 0 =
    λ i spared. ap (λ z. x.weight *ℤ z) (cond-false (is_forbidden n f i (get_or q i 0)) x.step (pos 0) spared) ∙ times_zero x.weight in
    let least : (i : ℕ) → pos 0 ≤ℤ g i =
    λ i.
    elim (is_forbidden n f i (get_or q i 0)) as (λ t. is_forbidden n f i (get_or q i 0) ≡ t → pos 0 ≤ℤ g i) [
      | true ↦ λ e. let is = full i e in omega (arith, ints, is, positive)
      | false ↦ λ e. let is = free i e in omega (arith, ints, is)
    ] refl in
    let each : (i : ℕ) → i < count → only_at g at i ≤ℤ g i =
    λ i below.
    elim (nat_eq i at) as (λ t. nat_eq i at ≡ t → only_at g at i ≤ℤ g i) [
      | true ↦ λ e. let is : only_at g at i ≡ g i = cond-true (nat_eq i at) (g i) (pos 0) e in omega (arith, ints, is)
      | false ↦ λ e. let is : only_at g at i ≡ pos 0 = cond-false (nat_eq i at) (g i) (pos 0) e in let low = least i in omega (arith, ints, is, low)
    ] refl in
    let sums = sum_to-monotone (only_at g at) g count each in
    let one = sum_to-only_at g at count (omega (arith, some.has_row, most)) in
    let is = full at some.taken in
    omega (arith, ints, sums, one, is)

-- a permutation that uses no forbidden location costs what it did
same-cost : (I : Problem) (old : Charges) (f : Forbidden) (x : Penalty) (c : Charges) (p : List ℕ) → (0 < old.count → x.weight ≡ old.weight) → IsRaised I.size old f x c → Permutes I p → UsesNone I.size f p
    → cost_with I c p ≡ cost_with I old p
same-cost I old f x c p kept raised perm none =
    let parts = charged-parts I old f x c p kept raised perm in
    let nothing = above-none I.size c.count f x p none in
    omega (arith, ints, parts, nothing)

-- and less than each that uses one
less-cost : (I : Problem) (old : Charges) (f : Forbidden) (x : Penalty) (c : Charges) (p q : List ℕ) → AreCharges I.size old → IsPenalty old f (spread I old) x → pos 0 ≤ℤ spread I old → IsRaised I.size old f x c
    → Permutes I p → Permutes I q → UsesNone I.size f p → UsesSome I.size f q → cost_with I c p <ℤ cost_with I c q
less-cost I old f x c p q charges penalty positive raised first second none some =
    let same = same-cost I old f x c p penalty.kept raised first none in
    let parts = charged-parts I old f x c q penalty.kept raised second in
    let above = penalty.above (omega (arith, some.has_row)) in
    let more = above-some I.size c.count f x q (omega (arith, ints, above, positive)) raised.rows some in
    let apart = spread-le I old p q charges first second in
    omega (arith, ints, same, parts, above, more, apart)

-- the raised charges keep facilities off forbidden locations
pub Forbids-raised : (I : Problem) (old : Charges) (f : Forbidden) (x : Penalty) (c : Charges) → AreCharges I.size old → IsPenalty old f (spread I old) x → pos 0 ≤ℤ spread I old → IsRaised I.size old f x c → Forbids I old f c
Forbids-raised I old f x c charges penalty positive raised = record {
  charges = raised.charges;
  same = λ p perm none. same-cost I old f x c p penalty.kept raised perm none;
  less = λ p q first second none some. less-cost I old f x c p q charges penalty positive raised first second none some;
}

-- the entries that a loop has made are raised charges
pub IsRaised-table : (n : ℕ) (old : Charges) (f : Forbidden) (x : Penalty) (c : Charges) → AreCharges n old → AreForbidden n f → InRange x.weight → IsTable (raised_at n old f x.step) n (c.count * n) c.entries.items
    → c.weight ≡ x.weight → c.count ≤ n → n + c.count ≤ 256 → old.count ≤ c.count → f.count ≤ c.count → IsRaised n old f x c
IsRaised-table n old f x c charges forbidden small table weight few room payers rows = record {
  charges = record {
    payers = few;
    room = room;
    counted = table.many;
    weight = subst InRange (sym weight) small;
    ranges = table.in_range;
  };
  payers = payers;
  rows = rows;
  weight = weight;
  entry = λ i k row column.
      table.each (i * n + k) (omega (arith, mul-add-lt i n k c.count row column))
      ∙ ap₂ (raised_at n old f x.step) (div-mul-add i n k column) (mod-mul-add i n k column);
}

-- a weight that makes a product positive is not negative
weight-least : (w d s : ℤ) → pos 0 ≤ℤ d → pos 0 ≤ℤ s → s <ℤ (w *ℤ d) → pos 0 ≤ℤ w
weight-least (pos n) d s step positive above = omega (arith, ints)
weight-least (negsuc m) (pos k) s step positive above = let p = product_is (negsuc m) (pos k) in absurd (omega (arith, ints, p.0, p.1, positive, above))
weight-least (negsuc m) (negsuc k) s step positive above = absurd (omega (arith, ints, step))

times-monotone : (w a b : ℤ) → pos 0 ≤ℤ w → a ≤ℤ b → (w *ℤ a) ≤ℤ (w *ℤ b)
times-monotone w a b positive most =
    let split = *ℤ-+ℤ w a (b -ℤ a) in
    let back : a +ℤ (b -ℤ a) ≡ b = omega (arith, ints) in
    let whole : w *ℤ (a +ℤ (b -ℤ a)) ≡ w *ℤ b = ap (λ z. w *ℤ z) back in
    let more = times-least w (b -ℤ a) positive (omega (arith, ints, most)) in
    omega (arith, ints, split, whole, more)

-- a forbidden location whose raised entry passes the greatest is full
pub IsFull-passed : (I : Problem) (old : Charges) (f : Forbidden) (x : Penalty) → IsPenalty old f (spread I old) x → pos 0 ≤ℤ spread I old → IsPassed I.size old f x.step → IsFull I old f
IsFull-passed I old f x penalty positive passed = record {
  facility = passed.facility;
  location = passed.location;
  has_row = passed.has_row;
  inside = passed.inside;
  taken = passed.taken;
  full =
      let some : 0 < f.count = omega (arith, passed.has_row) in
      let past = passed.past in
      let small = penalty.small in
      let base = base_at I.size old passed.facility passed.location in
      let weight = weight-least x.weight x.step (spread I old) penalty.least positive (penalty.above some) in
      elim (cases_lt passed.facility old.count) [
        | inl row ↦
            let most = times-monotone x.weight (pos 1000000000 -ℤ base) (x.step -ℤ pos 1) weight (omega (arith, ints, past)) in
            let tight = penalty.tight some in
            let kept : x.weight *ℤ (pos 1000000000 -ℤ base) ≡ old.weight *ℤ (pos 1000000000 -ℤ base) = ap (λ w. w *ℤ (pos 1000000000 -ℤ base)) (penalty.kept (omega (arith, row))) in
            omega (arith, ints, most, tight, kept)
        | inr out ↦
            let none : base ≡ pos 0 = cond-false (nat_lt passed.facility old.count) (charge_at I.size old passed.facility passed.location) (pos 0) (le-ltb passed.facility old.count out) in
            absurd (omega (arith, ints, none, past, small))
      ];
}

-- a forbidden location is in a row
pub row-of : (n : ℕ) (f : Forbidden) (i k : ℕ) → is_forbidden n f i k ≡ true → i < f.count
row-of n f i k taken =
    elim (cases_lt i f.count) [
      | inl row ↦ row
      | inr past ↦ absurd (true≢false (sym taken ∙ unforbidden n f i k past))
    ]
