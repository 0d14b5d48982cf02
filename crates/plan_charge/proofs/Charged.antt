-- The cost of an extended instance: that of the instance, and what the facilities pay.
use Rattle.std.proofs.Common.{◌≡◌, ◌≢◌, ◌∙◌, ℕ, zero, suc, ◌+◌, ◌-◌, ◌<◌, ◌≤◌, true, false, List, ap, ap₂, arith, get_or, length, nat_eq, refl, subst, sym}
use Rattle.std.specs.Prelude.{ℤ, pos, ◌+ℤ◌, ◌*ℤ◌, nat_lt}
use Rattle.std.specs.List.{range_with_len}
use Rattle.std.proofs.lemmas.Bool.{cond-true, cond-false, le-ltb, lt-ltb, ne_eqb, eq-eqb, eqb-false}
use Rattle.std.proofs.lemmas.Int.{ints}
use Rattle.std.proofs.lemmas.List.{get_or_append_left, get_or-append_right}
use Rattle.std.proofs.lemmas.List.FromFn.{get_or-range_with_len}
use Rattle.qap_cost.specs.Instance.{Problem, entry}
use Rattle.qap_cost.specs.Objective.{Permutes, cost_of, pair_cost, row_cost}
use Rattle.qap_cost.specs.Sum.{sum_to}
use Rattle.qap_cost.proofs.Sums.{only_at, sum_to-only_at, sum_to-same, sum_to-zero}
use Rattle.plan_charge.specs.Charges.{AreCharges, charge_at, charged, cost_with, paid}
use Rattle.plan_charge.specs.Extended.{IsExtended, distance_with, extended_list, flow_with}
use Rattle.plan_charge.specs.declared.charges.Charges.{Charges}

-- a sum in two parts
pub sum_to-split : (f : ℕ → ℤ) (d m : ℕ) → sum_to f (d + m) ≡ sum_to f d +ℤ sum_to (λ r. f (d + r)) m
sum_to-split f d zero =
    let e : d + zero ≡ d = omega arith in
    let same : sum_to f (d + zero) ≡ sum_to f d = ap (sum_to f) e in
    omega (arith, ints, same)
sum_to-split f d (suc m) =
    let e : d + suc m ≡ suc (d + m) = omega arith in
    let same : sum_to f (d + suc m) ≡ sum_to f (d + m) +ℤ f (d + m) = ap (sum_to f) e in
    let ih = sum_to-split f d m in
    omega (arith, ints, same, ih)

-- the flows between facilities of the instance
flow-inside : (I : Problem) (c : Charges) (i j : ℕ) → i < I.size → j < I.size → flow_with I c i j ≡ entry I.size I.a i j
flow-inside I c i j row column = cond-true (nat_lt i I.size) _ _ (lt-ltb i I.size row) ∙ cond-true (nat_lt j I.size) _ _ (lt-ltb j I.size column)

-- none to an extra facility
flow-out : (I : Problem) (c : Charges) (i j : ℕ) → i < I.size → I.size ≤ j → flow_with I c i j ≡ pos 0
flow-out I c i j row column = cond-true (nat_lt i I.size) _ _ (lt-ltb i I.size row) ∙ cond-false (nat_lt j I.size) _ _ (le-ltb j I.size column)

-- the weight from an extra facility to its own
flow-own : (I : Problem) (c : Charges) (r : ℕ) → flow_with I c (I.size + r) r ≡ c.weight
flow-own I c r =
    cond-false (nat_lt (I.size + r) I.size) _ _ (le-ltb (I.size + r) I.size (omega arith))
    ∙ cond-true (nat_eq (r + I.size) (I.size + r)) _ _ (eq-eqb (r + I.size) (I.size + r) (omega arith))

-- and none to another
flow-other : (I : Problem) (c : Charges) (r j : ℕ) → j ≢ r → flow_with I c (I.size + r) j ≡ pos 0
flow-other I c r j other =
    cond-false (nat_lt (I.size + r) I.size) _ _ (le-ltb (I.size + r) I.size (omega arith))
    ∙ cond-false (nat_eq (j + I.size) (I.size + r)) _ _ (ne_eqb (j + I.size) (I.size + r) (λ e. other (omega arith)))

-- the distances between locations of the instance
distance-inside : (I : Problem) (c : Charges) (k l : ℕ) → k < I.size → l < I.size → distance_with I c k l ≡ entry I.size I.b k l
distance-inside I c k l row column = cond-true (nat_lt l I.size) _ _ (lt-ltb l I.size column) ∙ cond-true (nat_lt k I.size) _ _ (lt-ltb k I.size row)

-- the charges from an extra location
distance-own : (I : Problem) (c : Charges) (r l : ℕ) → l < I.size → distance_with I c (I.size + r) l ≡ charge_at I.size c r l
distance-own I c r l column =
    let back : I.size + r - I.size ≡ r = omega arith in
    cond-true (nat_lt l I.size) _ _ (lt-ltb l I.size column)
    ∙ cond-false (nat_lt (I.size + r) I.size) _ _ (le-ltb (I.size + r) I.size (omega arith))
    ∙ ap (λ i. charge_at I.size c i l) back

-- the locations of the facilities of the instance, and of the extra ones
pub front_at : (count : ℕ) (p : List ℕ) (i : ℕ) → i < length p → get_or (extended_list count p) i 0 ≡ get_or p i 0
front_at count p i below = get_or_append_left p (range_with_len (length p) count) 0 i below

pub extra_at : (count : ℕ) (p : List ℕ) (r : ℕ) → r < count → get_or (extended_list count p) (length p + r) 0 ≡ length p + r
extra_at count p r below =
    let back : length p + r - length p ≡ r = omega arith in
    get_or-append_right p (range_with_len (length p) count) (length p) (length p + r) 0 refl (omega arith)
    ∙ ap (λ i. get_or (range_with_len (length p) count) i 0) back
    ∙ get_or-range_with_len (length p) count r 0 below

-- two facilities of the instance cost the same with the extra ones
pair-inside : (I J : Problem) (c : Charges) (p : List ℕ) (i j : ℕ) → IsExtended I c J → Permutes I p → i < I.size → j < I.size
    → pair_cost J (extended_list c.count p) i j ≡ pair_cost I p i j
pair-inside I J c p i j x perm row column =
    let at_i = front_at c.count p i (omega (arith, perm.same_size)) in
    let at_j = front_at c.count p j (omega (arith, perm.same_size)) in
    let k = get_or p i 0 in
    let l = get_or p j 0 in
    let inside_k : k < I.size = omega (arith, perm.bijection.within i (omega (arith, perm.same_size)), perm.same_size) in
    let inside_l : l < I.size = omega (arith, perm.bijection.within j (omega (arith, perm.same_size)), perm.same_size) in
    ap₂ ◌*ℤ◌
    (x.flow i j (omega (arith, x.size)) (omega (arith, x.size)) ∙ flow-inside I c i j row column)
    (ap₂ (λ s t. entry J.size J.b s t) at_i at_j ∙ x.distance k l (omega (arith, x.size)) (omega (arith, x.size)) ∙ distance-inside I c k l inside_k inside_l)

zero_times : (z : ℤ) → pos 0 *ℤ z ≡ pos 0
zero_times z = omega (arith, ints)

-- a product with nothing
nothing : (x y : ℤ) → x ≡ pos 0 → x *ℤ y ≡ pos 0
nothing x y none = ap (λ z. z *ℤ y) none ∙ zero_times y

-- a facility of the instance costs the same with the extra ones
row-inside : (I J : Problem) (c : Charges) (p : List ℕ) (i : ℕ) → IsExtended I c J → Permutes I p → i < I.size → row_cost J (extended_list c.count p) i ≡ row_cost I p i
row-inside I J c p i x perm row =
    let f = pair_cost J (extended_list c.count p) i in
    let same : sum_to f I.size ≡ row_cost I p i = sum_to-same f (pair_cost I p i) I.size (λ j column. pair-inside I J c p i j x perm row column) in
    let none : sum_to (λ r. f (I.size + r)) c.count ≡ pos 0 =
    sum_to-zero (λ r. f (I.size + r)) c.count (λ r below. nothing _ _ (x.flow i (I.size + r) (omega (arith, x.size)) (omega (arith, x.size)) ∙ flow-out I c i (I.size + r) row (omega arith))) in
    let parts : sum_to f J.size ≡ sum_to f I.size +ℤ sum_to (λ r. f (I.size + r)) c.count = ap (sum_to f) x.size ∙ sum_to-split f I.size c.count in
    omega (arith, ints, same, none, parts)

-- an extra facility costs what its own one pays
row-extra : (I J : Problem) (c : Charges) (p : List ℕ) (r : ℕ) → AreCharges I.size c → IsExtended I c J → Permutes I p → r < c.count
    → row_cost J (extended_list c.count p) (I.size + r) ≡ paid I.size c p r
row-extra I J c p r charges x perm below =
    let q = extended_list c.count p in
    let f = pair_cost J q (I.size + r) in
    let in_row : I.size + r < J.size = omega (arith, x.size) in
    let own : r < I.size = omega (arith, charges.payers) in
    let k = get_or p r 0 in
    let inside : k < I.size = omega (arith, perm.bijection.within r (omega (arith, perm.same_size)), perm.same_size) in
    let at_extra : get_or q (I.size + r) 0 ≡ I.size + r = subst (λ n. get_or q (n + r) 0 ≡ n + r) perm.same_size (extra_at c.count p r below) in
    let at_own : get_or q r 0 ≡ k = front_at c.count p r (omega (arith, perm.same_size)) in
    let alone : (j : ℕ) → j < J.size → f j ≡ only_at f r j =
    λ j column.
    elim (nat_eq j r) as (λ t. nat_eq j r ≡ t → f j ≡ only_at f r j) [
      | true ↦ λ e. sym (cond-true (nat_eq j r) (f j) (pos 0) e)
      | false ↦ λ e. nothing _ _ (x.flow (I.size + r) j in_row column ∙ flow-other I c r j (eqb-false j r e)) ∙ sym (cond-false (nat_eq j r) (f j) (pos 0) e)
    ] refl in
    sum_to-same f (only_at f r) J.size alone
    ∙ sum_to-only_at f r J.size (omega (arith, x.size))
    ∙ ap₂ ◌*ℤ◌
    (x.flow (I.size + r) r in_row (omega (arith, x.size)) ∙ flow-own I c r)
    (ap₂ (λ s t. entry J.size J.b s t) at_extra at_own ∙ x.distance (I.size + r) k in_row (omega (arith, x.size)) ∙ distance-own I c r k inside)

-- with the extra facilities at their own locations, a permutation costs what it does in the instance, and what the facilities pay
pub cost_of-extended : (I J : Problem) (c : Charges) (p : List ℕ) → AreCharges I.size c → IsExtended I c J → Permutes I p → cost_of J (extended_list c.count p) ≡ cost_with I c p
cost_of-extended I J c p charges x perm =
    let f = row_cost J (extended_list c.count p) in
    let same : sum_to f I.size ≡ cost_of I p = sum_to-same f (row_cost I p) I.size (λ i row. row-inside I J c p i x perm row) in
    let pays : sum_to (λ r. f (I.size + r)) c.count ≡ charged I.size c p =
    sum_to-same (λ r. f (I.size + r)) (paid I.size c p) c.count (λ r below. row-extra I J c p r charges x perm below) in
    ap (sum_to f) x.size ∙ sum_to-split f I.size c.count ∙ ap₂ ◌+ℤ◌ same pays
