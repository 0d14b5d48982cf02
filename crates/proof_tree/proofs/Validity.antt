-- A valid tree bounds the cost of every completion of its root, and is valid for each smaller bound.
use Rattle.std.proofs.Common.{◌≡◌, ℕ, ◌+◌, ◌<◌, length, ℤ, refl, sym, ◌∙◌, subst, inl, inr, arith}
use Rattle.std.specs.Prelude.{Option, Some, None, ◌+ℤ◌, ◌≤ℤ◌}
use Rattle.std.proofs.lemmas.Bool.{cases_lt}
use Rattle.std.proofs.lemmas.Int.{ints}
use Rattle.qap_cost.specs.Instance.{Problem}
use Rattle.qap_cost.specs.Objective.{IsLeast, NoneCostsLess, cost_of}
use Rattle.qap_cost.specs.Placement.{Placement, IsPlacement, Completes, root_of}
use Rattle.qap_cost.proofs.Nodes.{root_completed}
use Rattle.pair_duals.specs.PairDuals.{Duals, Fit}
use Rattle.pair_duals.specs.Reduced.{Form, IsFormOf, IsNonNegative, at}
use Rattle.pair_duals.proofs.Forms.{IsFormOf-child, IsFormOf-line, IsFormOf-start, value-le}
use Rattle.qap_proof.proofs.Validity.{Bounded}
use Rattle.qap_proof.specs.Cell.{own_on}
use Rattle.qap_proof.specs.Claim.{NoneCompletesForLess}
use Rattle.qap_proof.specs.declared.side.Side.{Side}
use Rattle.pair_duals.specs.CostStep.{DividesCosts, step_of}
use Rattle.proof_tree.specs.Claim.{IsPairProof, PairClaim, PairProves}
use Rattle.proof_tree.specs.Tree.{PairRows, NodeDuals, Tree, leaf, split, Children, no_children, closed, image, grown, child_count, row_of, column_of, child_on}
use Rattle.proof_tree.specs.Valid.{AllValid, Begins, IsClosed, IsLined, ReachesBound, Under, Valid, under}
use Rattle.proof_tree.proofs.Reaching.{Bounded-closed, Bounded-reached, IsNonNegative-line}
use Rattle.proof_tree.proofs.Splits.{IsCellOf-child, IsPlacement-cell, child_found, image_bounded}

-- the pair duals fit, and the form is that of the node
pub record IsGood (I : Problem) (y : Placement) (now : Under) : Type 0 where
  pub fit : Fit I now.duals
  pub form : IsFormOf I now.duals y now.form

-- what comes from above is good, if anything does
abbrev pub MayBeGood : Problem → Placement → Option Under → Type 0
MayBeGood I y None = Unit {0}
MayBeGood I y (Some above) = IsGood I y above

good_begin : (own : Option PairRows) (above : Option Under) (I : Problem) (y : Placement) (D : Duals) (R : Form) → IsPlacement y → I.size ≡ y.size → MayBeGood I y above → Begins I y above own D R → IsGood I y (under D R)
good_begin None None I y D R is same good h = absurd h
good_begin None (Some above) I y D R is same good h =
    subst (λ (E : Duals). IsGood I y (under E R)) (sym h.0) (subst (λ (Q : Form). IsGood I y (under above.duals Q)) (sym h.1) (record { fit = good.fit; form = good.form }))
good_begin (Some rows) None I y D R is same good h = record { fit = h.1; form = IsFormOf-start I D y R is same h.2 }
good_begin (Some rows) (Some above) I y D R is same good h = record { fit = h.1; form = IsFormOf-start I D y R is same h.2 }

-- after its line a node is good, and no entry is below 0
pub record IsDrawn (I : Problem) (y : Placement) (now : Under) : Type 0 where
  pub good : IsGood I y now
  pub least : IsNonNegative now.form

pub drawn : (I : Problem) (y : Placement) (above : Option Under) (d : NodeDuals) (now : Under) → IsPlacement y → I.size ≡ y.size → MayBeGood I y above → IsLined I y above d now → IsDrawn I y now
drawn I y above d now is same good h =
    let begun = good_begin d.own above I y now.duals h.start is same good h.begins in
    record {
      good = record { fit = begun.fit; form = IsFormOf-line I now.duals y h.start now.form d.u h.v is begun.form h.line };
      least = IsNonNegative-line h.start now.form d.u h.v h.line;
    }

-- a fact of the children before number c, and of it
pub earlier_more : (I : Problem) (bound : ℤ) (y : Placement) (side : Side) (own c : ℕ) → ((j : ℕ) → j < c → Bounded I bound (child_on side y own j)) → Bounded I bound (child_on side y own c) → (j : ℕ) → j < c + 1 → Bounded I bound (child_on side y own j)
earlier_more I bound y side own c earlier here j less =
    elim (cases_lt j c) [
      | inl before ↦ earlier j before
      | inr past ↦ let same : c ≡ j = omega arith in subst (λ (k : ℕ). Bounded I bound (child_on side y own k)) same here
    ]

mutual
  -- what completes the node costs at least the bound
  pub valid_bounds : (t : Tree) (I : Problem) (step : ℕ) (bound : ℤ) (y : Placement) (above : Option Under) → IsPlacement y → I.size ≡ y.size → DividesCosts I step → MayBeGood I y above → Valid I step bound y above t → Bounded I bound y
  valid_bounds (leaf d) I step bound y above is same divides good h p done =
      let now = h.0 in
      let k = drawn I y above d now is same good h.1 in
      Bounded-reached I step now.duals.scale bound now.form.value y same divides h.2 (λ p done. value-le I now.duals y now.form p is k.good.fit k.good.form k.least done) p done
  valid_bounds (split d side number children) I step bound y above is same divides good h p done =
      let now = h.0 in
      let own = h.1 in
      let k = drawn I y above d now is same good h.2 in
      let found = child_found side y own p is h.3.within done in
      all_bounded children I step bound y now side own 0 is same divides k.good k.least h.3.within (omega (arith, h.4)) (λ j less. absurd (omega arith)) h.5 found.0 (omega (arith, found.1, h.4)) p found.2

  -- where those before number c are bounded, all are
  pub all_bounded : (ts : Children) (I : Problem) (step : ℕ) (bound : ℤ) (y : Placement) (now : Under) (side : Side) (own c : ℕ) → IsPlacement y → I.size ≡ y.size → DividesCosts I step → IsGood I y now → IsNonNegative now.form
      → own < length (own_on side y) → c + child_count ts + length y.facilities ≡ y.size → ((j : ℕ) → j < c → Bounded I bound (child_on side y own j)) → AllValid I step bound y now side own c ts
      → (j : ℕ) → j < c + child_count ts → Bounded I bound (child_on side y own j)
  all_bounded no_children I step bound y now side own c is same divides good least free count earlier h j less = earlier j (omega arith)
  all_bounded (closed rest) I step bound y now side own c is same divides good least free count earlier h j less =
      let cell = IsCellOf-child side y own c is free (omega (arith, count)) in
      let n = good.form.numbers in
      let here = Bounded-closed I step bound y now (row_of side own c) (column_of side own c) is (IsPlacement-cell y (row_of side own c) (column_of side own c) is cell) same divides
      (omega (arith, n.row_count, cell.row)) (omega (arith, n.column_count, cell.column)) good.fit good.form least h.0 in
      all_bounded rest I step bound y now side own (c + 1) is same divides good least free (omega (arith, count)) (earlier_more I bound y side own c earlier here) h.1 j (omega arith)
  all_bounded (image m rest) I step bound y now side own c is same divides good least free count earlier h j less =
      let here = image_bounded side I bound y own c m is same free (omega (arith, count)) h.0 earlier in
      all_bounded rest I step bound y now side own (c + 1) is same divides good least free (omega (arith, count)) (earlier_more I bound y side own c earlier here) h.1 j (omega arith)
  all_bounded (grown t rest) I step bound y now side own c is same divides good least free count earlier h j less =
      let row = row_of side own c in
      let column = column_of side own c in
      let cell = IsCellOf-child side y own c is free (omega (arith, count)) in
      let n = good.form.numbers in
      let form = IsFormOf-child I now.duals y now.form h.0 row column is (omega (arith, n.row_count, cell.row)) (omega (arith, n.column_count, cell.column)) good.form h.1 in
      let here = valid_bounds t I step bound (child_on side y own c) (Some (under now.duals h.0)) (IsPlacement-cell y row column is cell) same divides (record { fit = good.fit; form = form }) h.2 in
      all_bounded rest I step bound y now side own (c + 1) is same divides good least free (omega (arith, count)) (earlier_more I bound y side own c earlier here) h.3 j (omega arith)

-- where a tree is valid, no completion of its node costs less than the bound
pub Valid-NoneCompletesForLess : (I : Problem) (step : ℕ) (bound : ℤ) (y : Placement) (above : Option Under) (t : Tree) → IsPlacement y → I.size ≡ y.size → DividesCosts I step → MayBeGood I y above → Valid I step bound y above t → NoneCompletesForLess I y bound
Valid-NoneCompletesForLess I step bound y above t is same divides good valid p permutes done = valid_bounds t I step bound y above is same divides good valid p done

-- where nothing is placed, none costs less
pub Valid-NoneCostsLess : (I : Problem) (step : ℕ) (bound : ℤ) (t : Tree) → IsPlacement (root_of I.size) → DividesCosts I step → Valid I step bound (root_of I.size) None t → NoneCostsLess I bound
Valid-NoneCostsLess I step bound t is divides valid p permutes =
    valid_bounds t I step bound (root_of I.size) None is refl divides tt valid p (root_completed I.size p permutes.bijection permutes.same_size)

-- ---- smaller bounds

reaches_smaller : (step scale : ℕ) (bound smaller value : ℤ) → smaller ≤ℤ bound → ReachesBound step bound scale value → ReachesBound step smaller scale value
reaches_smaller step scale bound smaller value less h k below = h k (omega (arith, ints, less, below))

closed_smaller : (I : Problem) (step : ℕ) (bound smaller : ℤ) (now : Under) (h g : ℕ) → smaller ≤ℤ bound → IsClosed I step bound now h g → IsClosed I step smaller now h g
closed_smaller I step bound smaller now h g less (inl alone) = inl (reaches_smaller step now.duals.scale bound smaller (now.form.value +ℤ at now.form h g) less alone)
closed_smaller I step bound smaller now h g less (inr more) =
    inr (record {
      form = more.form;
      u = more.u;
      v = more.v;
      child = more.child;
      rows = more.rows;
      columns = more.columns;
      reaches = reaches_smaller step now.duals.scale bound smaller _ less more.reaches;
    })

mutual
  -- a tree that is valid for a bound is valid for each smaller one
  pub Valid-smaller : (t : Tree) (I : Problem) (step : ℕ) (bound smaller : ℤ) (y : Placement) (above : Option Under) → smaller ≤ℤ bound → Valid I step bound y above t → Valid I step smaller y above t
  Valid-smaller (leaf d) I step bound smaller y above less h = (h.0, h.1, reaches_smaller step h.0.duals.scale bound smaller h.0.form.value less h.2)
  Valid-smaller (split d side number children) I step bound smaller y above less h =
      (h.0, h.1, h.2, h.3, h.4, AllValid-smaller children I step bound smaller y h.0 side h.1 0 less h.5)

  -- the same for the children of a split
  pub AllValid-smaller : (ts : Children) (I : Problem) (step : ℕ) (bound smaller : ℤ) (y : Placement) (now : Under) (side : Side) (own c : ℕ) → smaller ≤ℤ bound → AllValid I step bound y now side own c ts → AllValid I step smaller y now side own c ts
  AllValid-smaller no_children I step bound smaller y now side own c less h = tt
  AllValid-smaller (closed rest) I step bound smaller y now side own c less h =
      (closed_smaller I step bound smaller now (row_of side own c) (column_of side own c) less h.0, AllValid-smaller rest I step bound smaller y now side own (c + 1) less h.1)
  AllValid-smaller (image m rest) I step bound smaller y now side own c less h = (h.0, AllValid-smaller rest I step bound smaller y now side own (c + 1) less h.1)
  AllValid-smaller (grown t rest) I step bound smaller y now side own c less h = (
    h.0,
    h.1,
    Valid-smaller t I step bound smaller (child_on side y own c) (Some (under now.duals h.0)) less h.2,
    AllValid-smaller rest I step bound smaller y now side own (c + 1) less h.3,
  )

-- ---- proofs

-- where a proof proves its bound, no completion of its root costs less
pub Proves-NoneCompletesForLess : (I : Problem) (C : PairClaim) → IsPairProof C → DividesCosts I (step_of I) → PairProves I C → NoneCompletesForLess I C.root C.bound
Proves-NoneCompletesForLess I C proof divides h =
    Valid-NoneCompletesForLess I (step_of I) C.bound C.root None C.tree proof.root.placement (sym h.same_size ∙ sym proof.root.size) divides tt h.tree

-- where the root is empty and that is the cost, it is least
pub Proves-IsLeast : (I : Problem) (C : PairClaim) → IsPairProof C → DividesCosts I (step_of I) → PairProves I C → C.root ≡ root_of I.size → C.bound ≡ C.cost → IsLeast I C.cost
Proves-IsLeast I C proof divides h empty same = record {
  reached = (C.permutation, record { bijection = proof.permutation.bijection; same_size = h.same_size }, h.cost);
  least = λ p permutes.
      subst (λ z. z ≤ℤ cost_of I p) same (Proves-NoneCompletesForLess I C proof divides h p permutes
      (subst (λ (x : Placement). Completes x p) (sym empty) (root_completed I.size p permutes.bijection permutes.same_size)));
}
