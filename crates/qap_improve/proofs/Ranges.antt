-- How far from 0 what an exchange changes the cost by may lie, by how far entries do.
use Rattle.std.proofs.Common.{◌≡◌, ◌≢◌, ℕ, ◌*◌, ◌<◌, ◌≤◌, List, subst, arith}
use Rattle.std.specs.Prelude.{ℤ, ◌+ℤ◌, ◌-ℤ◌, ◌*ℤ◌, unsigned_abs}
use Rattle.std.proofs.lemmas.Int.{ints, unsigned_abs-mul}
use Rattle.std.proofs.lemmas.Nat.{mul-le}
use Rattle.qap_cost.specs.Instance.{Problem}
use Rattle.qap_cost.specs.Objective.{Permutes, cost_of}
use Rattle.qap_cost.specs.Sum.{sum_to}
use Rattle.qap_cost.proofs.Sums.{sum_to-bound}
use Rattle.qap_improve.specs.Arrangement.{HasEntriesWithin}
use Rattle.qap_improve.specs.Difference.{flow, distance, change_between, change_with}
use Rattle.qap_improve.specs.Exchange.{exchanging}
use Rattle.qap_improve.specs.Table.{IsDifference}
use Rattle.qap_improve.proofs.Arrangements.{distance-within}
use Rattle.qap_improve.proofs.Exchanges.{cost_of-exchanging}

less : (l : ℕ) (x y : ℤ) → unsigned_abs x ≤ l → unsigned_abs y ≤ l → unsigned_abs (x -ℤ y) ≤ 2 * l
less l x y hx hy = omega (arith, ints)

four : (l : ℕ) → (2 * l) * (2 * l) ≡ 4 * (l * l)
four l = grind arith

crossed : (l : ℕ) (x y u v : ℤ) → unsigned_abs x ≤ l → unsigned_abs y ≤ l → unsigned_abs u ≤ l → unsigned_abs v ≤ l → unsigned_abs ((x -ℤ y) *ℤ (u -ℤ v)) ≤ 4 * (l * l)
crossed l x y u v hx hy hu hv =
    let both : unsigned_abs (x -ℤ y) * unsigned_abs (u -ℤ v) ≤ (2 * l) * (2 * l) = mul-le _ _ _ _ (less l x y hx hy) (less l u v hu hv) in
    rw (unsigned_abs-mul (x -ℤ y) (u -ℤ v)) (subst (λ (m : ℕ). unsigned_abs (x -ℤ y) * unsigned_abs (u -ℤ v) ≤ m) (four l) both)

added : (m : ℕ) (x y : ℤ) → unsigned_abs x ≤ 4 * m → unsigned_abs y ≤ 4 * m → unsigned_abs (x +ℤ y) ≤ 8 * m
added m x y hx hy = omega (arith, ints)

with-within : (l : ℕ) (I : Problem) (p : List ℕ) (r s k : ℕ) → HasEntriesWithin l I → Permutes I p → r < I.size → s < I.size → k < I.size → unsigned_abs (change_with I p r s k) ≤ 8 * (l * l)
with-within l I p r s k h perm hr hs hk =
    added (l * l) ((flow I k r -ℤ flow I k s) *ℤ (distance I p k s -ℤ distance I p k r)) ((flow I r k -ℤ flow I s k) *ℤ (distance I p s k -ℤ distance I p r k))
    (crossed l (flow I k r) (flow I k s) (distance I p k s) (distance I p k r) (h.flows k r hk hr) (h.flows k s hk hs) (distance-within l I p k s h perm hk hs) (distance-within l I p k r h perm hk hr))
    (crossed l (flow I r k) (flow I s k) (distance I p s k) (distance I p r k) (h.flows r k hr hk) (h.flows s k hs hk) (distance-within l I p s k h perm hs hk) (distance-within l I p r k h perm hr hk))

between-within : (l : ℕ) (I : Problem) (p : List ℕ) (r s : ℕ) → HasEntriesWithin l I → Permutes I p → r < I.size → s < I.size → unsigned_abs (change_between I p r s) ≤ 8 * (l * l)
between-within l I p r s h perm hr hs =
    added (l * l) ((flow I r r -ℤ flow I s s) *ℤ (distance I p s s -ℤ distance I p r r)) ((flow I r s -ℤ flow I s r) *ℤ (distance I p s r -ℤ distance I p r s))
    (crossed l (flow I r r) (flow I s s) (distance I p s s) (distance I p r r) (h.flows r r hr hr) (h.flows s s hs hs) (distance-within l I p s s h perm hs hs) (distance-within l I p r r h perm hr hr))
    (crossed l (flow I r s) (flow I s r) (distance I p s r) (distance I p r s) (h.flows r s hr hs) (h.flows s r hs hr) (distance-within l I p s r h perm hs hr) (distance-within l I p r s h perm hr hs))

all_of : (n m : ℕ) (t a b c : ℤ) → n ≤ 256 → unsigned_abs t ≤ n * (8 * m) → unsigned_abs a ≤ 8 * m → unsigned_abs b ≤ 8 * m → unsigned_abs c ≤ 8 * m → unsigned_abs (((t -ℤ a) -ℤ b) +ℤ c) ≤ 2072 * m
all_of n m t a b c small ht ha hb hc =
    let most : n * (8 * m) ≤ 256 * (8 * m) = mul-le n (8 * m) 256 (8 * m) small (omega arith) in
    let sum : unsigned_abs t ≤ 2048 * m = omega (arith, most, ht) in
    omega (arith, ints, sum, ha, hb, hc)

read_off : (x y d e : ℤ) → x +ℤ d ≡ y → x +ℤ e ≡ y → d ≡ e
read_off x y d e h i = omega (arith, ints)

-- where entries lie within l of 0, what an exchange changes the cost by lies within 2072 times the square of l
pub IsDifference-within : (l : ℕ) (I : Problem) (p : List ℕ) (r s : ℕ) (x : ℤ) → HasEntriesWithin l I → I.size ≤ 256 → Permutes I p → r ≢ s → r < I.size → s < I.size → IsDifference I p r s x
    → unsigned_abs x ≤ 2072 * (l * l)
IsDifference-within l I p r s x h small perm apart hr hs is =
    let with : (k : ℕ) → k < I.size → unsigned_abs (change_with I p r s k) ≤ 8 * (l * l) = λ k hk. with-within l I p r s k h perm hr hs hk in
    let sum = sum_to (change_with I p r s) I.size in
    let change = ((sum -ℤ change_with I p r s r) -ℤ change_with I p r s s) +ℤ change_between I p r s in
    subst (λ (y : ℤ). unsigned_abs y ≤ 2072 * (l * l))
    (read_off (cost_of I p) (cost_of I (exchanging p r s)) change x (cost_of-exchanging I p r s apart hr hs perm.same_size) is)
    (all_of I.size (l * l) sum (change_with I p r s r) (change_with I p r s s) (change_between I p r s) small (sum_to-bound (change_with I p r s) I.size (8 * (l * l)) with)
    (with r hr) (with s hs) (between-within l I p r s h perm hr hs))
