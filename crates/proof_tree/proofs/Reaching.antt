-- What it takes for a value to reach a bound, and what it gives.
use Rattle.std.proofs.Common.{◌≡◌, ℕ, suc, pred, ◌<◌, ℤ, List, length, get_or, sym, ◌∙◌, ap, subst, inl, inr, arith}
use Rattle.std.specs.Prelude.{pos, ◌+ℤ◌, ◌*ℤ◌, ◌<ℤ◌, ◌≤ℤ◌}
use Rattle.std.proofs.lemmas.Int.{ints, by_lt_z}
use Rattle.qap_cost.specs.Instance.{Problem}
use Rattle.qap_cost.specs.Matrix.{total}
use Rattle.qap_cost.specs.Objective.{cost_of}
use Rattle.qap_cost.specs.Placement.{Placement, IsPlacement, Completes, free_facilities, free_locations}
use Rattle.qap_cost.specs.Sum.{sum_to}
use Rattle.qap_cost.proofs.Nodes.{child_is, parent_of}
use Rattle.gilmore_lawler.proofs.Skips.{skip, skip-within, sum_to-apart}
use Rattle.qap_proof.proofs.Validity.{Bounded}
use Rattle.pair_duals.specs.PairDuals.{Duals, Fit}
use Rattle.pair_duals.specs.Reduced.{Form, AreLeast, AreUnder, IsFormOf, IsLine, IsNonNegative, at, count_of}
use Rattle.pair_duals.specs.Seats.{child_at}
use Rattle.pair_duals.proofs.Forms.{IsFormOf-child, row_duals-le, seats-le}
use Rattle.pair_duals.proofs.PairSums.{sum_to-nonnegative}
use Rattle.pair_duals.proofs.Seatings.{Seats-completed, locations_of, one_of_each, same_count}
use Rattle.pair_duals.specs.CostStep.{DividesCosts}
use Rattle.proof_tree.specs.Valid.{IsClosed, ReachesBound, Under}

-- no line leaves an entry below 0
pub IsNonNegative-line : (old new : Form) (u v : List ℤ) → IsLine old new u v → IsNonNegative new
IsNonNegative-line old new u v line = record {
  each = λ r c hr hc.
      let count : count_of new ≡ count_of old = ap length line.rows in
      let entry_is = line.entries r c (omega (arith, count)) (omega (arith, count)) in
      let least = (line.least.least c (omega (arith, count))).below r (omega (arith, count)) in
      omega (arith, ints, entry_is, least);
}

-- the least numbers of the columns, beside numbers of the rows, are together no more than any entry
pub AreUnder-least : (R : Form) (u v : List ℤ) → AreLeast (count_of R) R.entries u v → AreUnder R u v
AreUnder-least R u v least = record {
  below = λ r c hr hc.
      let here = (least.least c hc).below r hr in
      omega (arith, ints, here);
}

-- a multiple of the step whose scaled number is at least a value that reaches the bound is at least the bound
pub reached-le : (step scale : ℕ) (bound value c k : ℤ) → ReachesBound step bound scale value → c ≡ pos step *ℤ k → value ≤ℤ (pos scale *ℤ c) → bound ≤ℤ c
reached-le step scale bound value c k reaches is most =
    by_lt_z c bound
    (λ less.
    let past = reaches k (subst (λ z. z <ℤ bound) is less) in
    let same = ap (λ z. pos scale *ℤ z) is in
    absurd (omega (arith, ints, past, same, most)))
    (λ more. more)

-- where no completion costs less than such a value, none costs less than the bound
pub Bounded-reached : (I : Problem) (step scale : ℕ) (bound value : ℤ) (y : Placement) → I.size ≡ y.size → DividesCosts I step → ReachesBound step bound scale value
    → ((p : List ℕ) → Completes y p → value ≤ℤ (pos scale *ℤ cost_of I p)) → Bounded I bound y
Bounded-reached I step scale bound value y same divides reaches most p done =
    let of = divides.each p (record { bijection = done.bijection; same_size = done.same_size ∙ sym same }) in
    reached-le step scale bound value (cost_of I p) of.0 reaches of.1 (most p done)

-- what completes the child that puts row h at column g costs at least the value and the entry there
entry-le : (I : Problem) (D : Duals) (y : Placement) (R : Form) (h g : ℕ) (p : List ℕ) → IsPlacement y → h < count_of R → g < length R.columns → Fit I D → IsFormOf I D y R → IsNonNegative R → Completes (child_at y h g) p
    → (R.value +ℤ at R h g) ≤ℤ (pos D.scale *ℤ cost_of I p)
entry-le I D y R h g p is hh hg fit form least done =
    let n = form.numbers in
    let F = free_facilities y in
    let G = free_locations y in
    let parent = parent_of y (get_or F h 0) (get_or G g 0) p is done in
    let seated = Seats-completed y p is parent in
    let seat = seated.0 in
    let s = seated.1 in
    let long : length seat ≡ count_of R = s.count ∙ sym n.row_count in
    let wide : length R.columns ≡ count_of R = omega (arith, n.row_count, n.column_count, same_count y is) in
    let seat_in : (r : ℕ) → r < count_of R → get_or seat r 0 < count_of R = λ r hr. omega (arith, long, s.bijection.within r (omega (arith, long))) in
    let stands : get_or G (get_or seat h 0) 0 ≡ get_or G g 0 = sym (s.stands h (omega (arith, long))) ∙ child_is y (get_or F h 0) (get_or G g 0) p is done in
    let here : get_or seat h 0 ≡ g = one_of_each y.size y.places G (get_or seat h 0) g (locations_of y is) (omega (arith, n.column_count, wide, seat_in h hh)) (omega (arith, n.column_count)) stands in
    let E : ℕ → ℤ = λ r. at R r (get_or seat r 0) in
    let m = pred (count_of R) in
    let more : suc m ≡ count_of R = omega arith in
    let apart : sum_to E (suc m) ≡ E h +ℤ sum_to (λ r. E (skip h r)) m = sum_to-apart E h m (omega (arith, more)) in
    let all : sum_to E (suc m) ≡ sum_to E (count_of R) = ap (sum_to E) more in
    let others = sum_to-nonnegative (λ r. E (skip h r)) m (λ r hr.
    let inside : skip h r < count_of R = omega (arith, more, skip-within h r m hr) in
    least.each (skip h r) (get_or seat (skip h r) 0) inside (seat_in (skip h r) inside)) in
    let own : E h ≡ at R h g = ap (at R h) here in
    let below = seats-le I D y R p seat is fit form parent s in
    omega (arith, ints, apart, all, others, own, below)

-- a child that is closed without a text
pub Bounded-closed : (I : Problem) (step : ℕ) (bound : ℤ) (y : Placement) (now : Under) (h g : ℕ) → IsPlacement y → IsPlacement (child_at y h g) → I.size ≡ y.size → DividesCosts I step → h < count_of now.form → g < length now.form.columns
    → Fit I now.duals → IsFormOf I now.duals y now.form → IsNonNegative now.form → IsClosed I step bound now h g → Bounded I bound (child_at y h g)
Bounded-closed I step bound y now h g is next same divides hh hg fit form least (inl alone) =
    Bounded-reached I step now.duals.scale bound (now.form.value +ℤ at now.form h g) (child_at y h g) same divides alone (λ p done.
    entry-le I now.duals y now.form h g p is hh hg fit form least done)
Bounded-closed I step bound y now h g is next same divides hh hg fit form least (inr more) =
    let R = more.form in
    let child = IsFormOf-child I now.duals y now.form R h g is hh hg form more.child in
    Bounded-reached I step now.duals.scale bound (R.value +ℤ (total more.u +ℤ total more.v)) (child_at y h g) same divides more.reaches (λ p done.
    let below = row_duals-le I now.duals (child_at y h g) R more.u more.v p next fit child (AreUnder-least R more.u more.v more.columns) done in
    let u_is : total more.u ≡ sum_to (λ r. get_or more.u r (pos 0)) (count_of R) = ap (sum_to (λ r. get_or more.u r (pos 0))) more.rows.count in
    let v_is : total more.v ≡ sum_to (λ r. get_or more.v r (pos 0)) (count_of R) = ap (sum_to (λ r. get_or more.v r (pos 0))) more.columns.count in
    omega (arith, ints, below, u_is, v_is))
