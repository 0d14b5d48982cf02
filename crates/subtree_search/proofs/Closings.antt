-- When a value reaches every bound up to the incumbent's cost, and what follows for the completions of a node.
use Rattle.std.proofs.Common.{◌≡◌, ℕ, ◌<◌, List, length, get_or, ◌∙◌, ap, subst, inl, inr, arith}
use Rattle.std.specs.Prelude.{Bool, true, ℤ, pos, Some, ◌+ℤ◌, ◌-ℤ◌, ◌*ℤ◌, ◌≤ℤ◌, ◌<ℤ◌}
use Rattle.std.proofs.lemmas.Int.{ints, by_lt_z}
use Rattle.qap_cost.specs.Instance.{Problem}
use Rattle.qap_cost.specs.Matrix.{total}
use Rattle.qap_cost.specs.Objective.{cost_of}
use Rattle.qap_cost.specs.Placement.{Placement, IsPlacement, Completes, free_facilities, free_locations}
use Rattle.qap_cost.specs.Sum.{sum_to}
use Rattle.qap_cost.proofs.Placements.{IsPlacement-placing}
use Rattle.qap_cost.proofs.Sums.{*ℤ-+ℤ}
use Rattle.pair_duals.specs.CostStep.{step_of}
use Rattle.pair_duals.specs.PairDuals.{Duals}
use Rattle.pair_duals.specs.Reduced.{Form, IsFormOf, IsNonNegative, at, count_of, left_of_pair, sum_of_pairs}
use Rattle.pair_duals.specs.Seats.{child_at}
use Rattle.pair_duals.proofs.CostSteps.{step-divides}
use Rattle.pair_duals.proofs.Forms.{IsFormOf-line, row_duals-le, value-le}
use Rattle.pair_duals.proofs.Products.{scale-assoc}
use Rattle.pair_duals.proofs.Seatings.{Seats-completed, facilities_of, locations_of, same_count}
use Rattle.proof_tree.specs.Valid.{ReachesBound, under}
use Rattle.proof_tree.proofs.Multiples.{scaled-monotone}
use Rattle.proof_tree.proofs.Reaching.{AreUnder-least, Bounded-closed, Bounded-reached, IsNonNegative-line}
use Rattle.proof_tree.proofs.Validity.{valid_bounds}
use Rattle.subtree_search.specs.Best.{Best, IsIncumbent}
use Rattle.subtree_search.specs.Clean.{clean}
use Rattle.subtree_search.specs.Closed.{HasLeast, IsClosed, Reaches, ReachesTrivially, threshold_of}
use Rattle.subtree_search.specs.Evaluated.{ClosesByForm}
use Rattle.subtree_search.specs.Premises.{AreSound, IsNode}
use Rattle.subtree_search.specs.Recorded.{HasTree}
use Rattle.subtree_search.proofs.Cleaning.{Fit-clean, IsEven, IsFormOf-clean}

-- a multiple that is less than another one is a step less
step_before : (s : ℕ) (x y : ℤ) → (pos s *ℤ x) <ℤ (pos s *ℤ y) → (pos s *ℤ x) ≤ℤ (pos s *ℤ y -ℤ pos s)
step_before s x y less =
    by_lt_z x y
    (λ before.
    let next = scaled-monotone s (x +ℤ pos 1) y (omega (arith, ints, before)) in
    let apart = *ℤ-+ℤ (pos s) x (pos 1) in
    let one : pos s *ℤ pos 1 ≡ pos s = omega (arith, ints) in
    omega (arith, ints, next, apart, one))
    (λ behind. let more = scaled-monotone s y x behind in absurd (omega (arith, ints, more, less)))

-- above the threshold of a cost that is a multiple of the step, where a divisor of that gives the threshold
above-reaches : (step part scale : ℕ) (c q l t value : ℤ) → pos step ≡ pos part *ℤ q → c ≡ pos step *ℤ l → t ≡ threshold_of scale part c → t <ℤ value → (bound : ℤ) → bound ≤ℤ c → ReachesBound step bound scale value
above-reaches step part scale c q l t value divides multiple is above bound less k below =
    let own : pos step *ℤ k ≡ pos part *ℤ (q *ℤ k) = ap (λ z. z *ℤ k) divides ∙ scale-assoc part q k in
    let all : c ≡ pos part *ℤ (q *ℤ l) = multiple ∙ ap (λ z. z *ℤ l) divides ∙ scale-assoc part q l in
    let before = step_before part (q *ℤ k) (q *ℤ l) (omega (arith, ints, below, less, own, all)) in
    let scaled = scaled-monotone scale (pos step *ℤ k) (c -ℤ pos part) (omega (arith, ints, before, own, all)) in
    omega (arith, ints, scaled, is, above)

-- above the incumbent's threshold
pub Reaches-above : (I : Problem) (D : Duals) (step : ℕ) (b : Best) (t value : ℤ) → AreSound I D step → IsIncumbent I b → t ≡ threshold_of D.scale step b.cost → t <ℤ value → Reaches I D.scale b.cost value
Reaches-above I D step b t value sound known is above =
    let own = (step-divides I).each b.permutation known.permutes in
    above-reaches (step_of I) step D.scale b.cost sound.divides.0 own.0 t value sound.divides.1 (known.cost ∙ own.1) is above

-- the scaled cost of a permutation that costs no less
Reaches-cost : (I : Problem) (scale : ℕ) (c cost value : ℤ) → 0 < scale → value ≡ pos scale *ℤ cost → c ≤ℤ cost → Reaches I scale c value
Reaches-cost I scale c cost value positive is most bound less k below =
    let more = scaled-monotone scale ((pos (step_of I) *ℤ k) +ℤ pos 1) cost (omega (arith, ints, below, less, most)) in
    let apart = *ℤ-+ℤ (pos scale) (pos (step_of I) *ℤ k) (pos 1) in
    let one : pos scale *ℤ pos 1 ≡ pos scale = omega (arith, ints) in
    omega (arith, ints, more, apart, one, is, positive)

-- the value of a form with no rows is the scaled cost of the permutation that the node is
value-whole : (I : Problem) (D : Duals) (y : Placement) (R : Form) (p : List ℕ) → IsPlacement y → IsFormOf I D y R → count_of R ≡ 0 → Completes y p → R.value ≡ pos D.scale *ℤ cost_of I p
value-whole I D y R p is form none done =
    let seated = Seats-completed y p is done in
    let seat = seated.0 in
    let all = form.identity p seat done seated.1 in
    let entries : sum_to (λ r. at R r (get_or seat r 0)) (count_of R) ≡ pos 0 = ap (sum_to (λ r. at R r (get_or seat r 0))) none in
    let pairs : sum_of_pairs (left_of_pair I D R.rows R.columns seat) (count_of R) ≡ pos 0 = ap (sum_of_pairs (left_of_pair I D R.rows R.columns seat)) none in
    omega (arith, ints, all, entries, pairs)

-- the value of a node that places all facilities reaches what its permutation costs
pub Reaches-whole : (I : Problem) (D : Duals) (step : ℕ) (y : Placement) (R : Form) (p : List ℕ) (c : ℤ) → IsNode I D step y R → 0 < D.scale → count_of R ≡ 0 → Completes y p → c ≤ℤ cost_of I p → Reaches I D.scale c R.value
Reaches-whole I D step y R p c n positive none done most = Reaches-cost I D.scale c (cost_of I p) R.value positive (value-whole I D y R p n.placement n.form none done) most

-- by the least numbers, above the incumbent's threshold
pub ReachesTrivially-above : (I : Problem) (D : Duals) (step : ℕ) (b : Best) (t : ℤ) (R : Form) (closes : Bool) → AreSound I D step → IsIncumbent I b → t ≡ threshold_of D.scale step b.cost → HasLeast R t closes → closes ≡ true → ReachesTrivially I D.scale b.cost R
ReachesTrivially-above I D step b t R closes sound known is has yes_closes =
    record { u = has.u; v = has.v; rows = has.rows; columns = has.columns; reaches = Reaches-above I D step b t (R.value +ℤ (total has.u +ℤ total has.v)) sound known is (has.closes yes_closes) }

-- with no rows there are no least numbers
pub ReachesTrivially-whole : (I : Problem) (scale : ℕ) (c : ℤ) (R : Form) (t : ℤ) (closes : Bool) → count_of R ≡ 0 → HasLeast R t closes → Reaches I scale c R.value → ReachesTrivially I scale c R
ReachesTrivially-whole I scale c R t closes none has reaches =
    let u = has.u in
    let v = has.v in
    let rows = has.rows in
    let columns = has.columns in
    let us : total u ≡ pos 0 = ap (sum_to (λ r. get_or u r (pos 0))) (rows.count ∙ none) in
    let vs : total v ≡ pos 0 = ap (sum_to (λ r. get_or v r (pos 0))) (columns.count ∙ none) in
    let same : R.value ≡ R.value +ℤ (total u +ℤ total v) = omega (arith, ints, us, vs) in
    record { u = u; v = v; rows = rows; columns = columns; reaches = subst (Reaches I scale c) same reaches }

-- ---- what follows for completions

at_most : (c : ℤ) → c ≤ℤ c
at_most c = omega (arith, ints)

-- a node whose least entries reach c is closed
pub IsClosed-trivially : (I : Problem) (D : Duals) (step : ℕ) (y : Placement) (R : Form) (c : ℤ) → IsNode I D step y R → ReachesTrivially I D.scale c R → IsClosed I y c
IsClosed-trivially I D step y R c n closes = record {
  least = Bounded-reached I (step_of I) D.scale c (R.value +ℤ (total closes.u +ℤ total closes.v)) y n.size (step-divides I) (closes.reaches c (at_most c))
      (λ p done.
      let below = row_duals-le I D y R closes.u closes.v p n.placement n.sound.fit n.form (AreUnder-least R closes.u closes.v closes.columns) done in
      let us : total closes.u ≡ sum_to (λ r. get_or closes.u r (pos 0)) (count_of R) = ap (sum_to (λ r. get_or closes.u r (pos 0))) closes.rows.count in
      let vs : total closes.v ≡ sum_to (λ r. get_or closes.v r (pos 0)) (count_of R) = ap (sum_to (λ r. get_or closes.v r (pos 0))) closes.columns.count in
      omega (arith, ints, below, us, vs));
}

-- so is one whose value does, after a line
pub IsClosed-by_value : (I : Problem) (D : Duals) (step : ℕ) (y : Placement) (R : Form) (c : ℤ) → IsNode I D step y R → IsNonNegative R → Reaches I D.scale c R.value → IsClosed I y c
IsClosed-by_value I D step y R c n least reaches =
    record { least = Bounded-reached I (step_of I) D.scale c R.value y n.size (step-divides I) (reaches c (at_most c)) (λ p done. value-le I D y R p n.placement n.sound.fit n.form least done) }

-- so is one that its form closes, before a line or after it
pub IsClosed-by_form : (I : Problem) (D : Duals) (step : ℕ) (y : Placement) (R : Form) (c : ℤ) → IsNode I D step y R → ClosesByForm I D.scale c R → IsClosed I y c
IsClosed-by_form I D step y R c n (inl trivial) = IsClosed-trivially I D step y R c n trivial
IsClosed-by_form I D step y R c n (inr drawn) =
    IsClosed-by_value I D step y drawn.lined c (record { placement = n.placement; size = n.size; sound = n.sound; form = IsFormOf-line I D y R drawn.lined drawn.u drawn.v n.placement n.form drawn.line }) (IsNonNegative-line R drawn.lined drawn.u drawn.v drawn.line) drawn.reaches

-- a child of a node is a node
pub IsPlacement-child : (y : Placement) (h g : ℕ) → IsPlacement y → h < length (free_facilities y) → g < length (free_locations y) → IsPlacement (child_at y h g)
IsPlacement-child y h g is rows columns = IsPlacement-placing y (get_or (free_facilities y) h 0) (get_or (free_locations y) g 0) is ((facilities_of y is).each h rows) ((locations_of y is).each g columns)

-- a child that its parent prunes is closed
pub IsClosed-pruned : (I : Problem) (D : Duals) (step : ℕ) (y : Placement) (R : Form) (h g : ℕ) (c : ℤ) → IsNode I D step y R → IsNonNegative R → h < count_of R → g < count_of R → Reaches I D.scale c (R.value +ℤ at R h g) → IsClosed I (child_at y h g) c
IsClosed-pruned I D step y R h g c n least hh hg reaches =
    let rows : h < length (free_facilities y) = omega (arith, hh, n.form.numbers.row_count) in
    let columns : g < length (free_locations y) = omega (arith, hg, n.form.numbers.row_count, same_count y n.placement) in
    let wide : g < length R.columns = omega (arith, columns, n.form.numbers.column_count) in
    record { least = Bounded-closed I (step_of I) c y (under D R) h g n.placement (IsPlacement-child y h g n.placement rows columns) n.size (step-divides I) hh wide n.sound.fit n.form least (inl (reaches c (at_most c))) }

-- by a recorded tree
pub IsClosed-tree : (I : Problem) (D : Duals) (step : ℕ) (y : Placement) (R : Form) (c : ℤ) (old new : List ℕ → Type 0) → IsEven D → IsNode I D step y R → HasTree I D y R c old new → IsClosed I y c
IsClosed-tree I D step y R c old new even n has = record {
  least = valid_bounds has.tree I (step_of I) c y (Some (under (clean D) R)) n.placement n.size (step-divides I)
      (record { fit = Fit-clean I D even n.sound.fit; form = IsFormOf-clean I D y R even n.placement n.form }) (has.valid c (at_most c));
}
