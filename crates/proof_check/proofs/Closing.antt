-- Children that reach the bound without a text.
use Rattle.std.proofs.Common.{◌≡◌, ℕ, ◌+◌, ◌<◌, ◌≤◌, ◌^◌, ◌++◌, ◌∷◌, [], List, length, ℤ, pos, unsigned_abs, to_z, of_z, refl, sym, ◌∙◌, ap, subst, inl, inr, arith, append-nil}
use Rattle.std.specs.Prelude.{Bool, true, false, Result, Ok, Err, IfOk, MatchBool, OnOk, ◌↔◌, ◌+ℤ◌, ◌*ℤ◌, ◌<ℤ◌, ◌≤ℤ◌}
use Rattle.std.specs.Int.{w128}
use Rattle.std.proofs.lemmas.Int.{by_lt_z, ints}
use Rattle.qap_cost.specs.Instance.{Problem}
use Rattle.qap_cost.specs.Placement.{Placement, IsPlacement}
use Rattle.pair_duals.proofs.Seatings.{facilities_of, same_count}
use Rattle.pair_duals.specs.PairDuals.{Duals}
use Rattle.pair_duals.specs.Reduced.{Form, IsFormOf, at, count_of}
use Rattle.qap_proof.specs.Shape.{free_count}
use Rattle.qap_proof.specs.Cover.{leaf as leaf_at}
use Rattle.qap_proof.specs.declared.leaf.Leaf.{Leaf}
use Rattle.qap_proof.specs.declared.side.Side.{Side}
use Rattle.proof_tree.specs.Leaves.{IsGreatest}
use Rattle.proof_tree.specs.Tree.{row_of, column_of}
use Rattle.proof_tree.specs.Valid.{IsClosed, ReachesBound, Under}
use Rattle.proof_tree.proofs.Multiples.{reaches-greatest}
use Rattle.proof_tree.proofs.Splits.{IsCellOf-child}
use Rattle.proof_check.specs.Judge.{IsGreatestBelow, IsJudge, IsParent}
use Rattle.proof_check.specs.Walk.{PushesLeaf}
use Rattle.proof_check.proofs.Splits.{IsListed}

-- a number up to 10^37 is read from 128 bits as it is
pub far_read : (z : ℤ) → unsigned_abs z ≤ 10 ^ 37 → to_z w128 (of_z w128 z) ≡ z
far_read z h = omega (arith, ints, h)

-- above the scaled multiple
pub reaches : (step : ℕ) (bound below : ℤ) (scale : ℕ) (threshold value : ℤ) → IsGreatestBelow step bound below → threshold ≡ pos scale *ℤ below → threshold <ℤ value → ReachesBound step bound scale value
reaches step bound below scale threshold value h scaled above =
    let less = h.less in
    let next = h.next in
    let multiple = h.multiple in
    let whole : pos scale *ℤ below ≡ pos scale *ℤ (pos step *ℤ h.times) = ap (λ z. pos scale *ℤ z) h.multiple in
    (reaches-greatest step scale bound value h.times (omega (arith, ints, less, multiple)) (omega (arith, ints, next, multiple))).1 (omega (arith, ints, above, scaled, whole))

-- what reaches the bound is above the scaled multiple
pub reached : (step : ℕ) (bound below : ℤ) (scale : ℕ) (threshold value : ℤ) → IsGreatestBelow step bound below → threshold ≡ pos scale *ℤ below → ReachesBound step bound scale value → threshold <ℤ value
reached step bound below scale threshold value h scaled reaches =
    let less = h.less in
    let multiple = h.multiple in
    let past = reaches h.times (omega (arith, ints, less, multiple)) in
    let whole : pos scale *ℤ below ≡ pos scale *ℤ (pos step *ℤ h.times) = ap (λ z. pos scale *ℤ z) h.multiple in
    omega (arith, ints, past, scaled, whole)

-- the cell of a child of a parent
pub record IsInside (R : Form) (h g : ℕ) : Type 0 where
  pub row : h < count_of R
  pub column : g < count_of R

-- each child of a split has its cell in its parent's form
pub cell_inside : (I : Problem) (below : ℤ) (y : Placement) (now : Under) (fs ls : List ℕ) (side : Side) (own c : ℕ) (threshold : ℤ) → IsParent I below y now fs ls side own threshold → c + length y.facilities < y.size → IsInside now.form (row_of side own c) (column_of side own c)
cell_inside I below y now fs ls side own c threshold h few =
    let cell = IsCellOf-child side y own c h.placement h.own_in few in
    let n = h.form.numbers in
    record { row = omega (arith, cell.row, n.row_count); column = omega (arith, cell.column, n.row_count, same_count y h.placement) }

-- what reaches the cost reaches the bound
pub reaches_bound : (step : ℕ) (bound below cost enough : ℤ) (scale : ℕ) (value : ℤ) → IsJudge step bound below cost enough → ReachesBound step cost scale value → ReachesBound step bound scale value
reaches_bound step bound below cost enough scale value h reaches k less = let most = h.at_most in reaches k (omega (arith, ints, most, less))

-- a child whose value alone reaches the cost is not listed
pub PushesLeaf-alone : (I : Problem) (step : ℕ) (bound below cost enough : ℤ) (now : Under) (h g : ℕ) (y : Placement) (threshold : ℤ) (ls : List Leaf) → IsJudge step bound below cost enough → threshold ≡ pos now.duals.scale *ℤ enough
    → threshold <ℤ (now.form.value +ℤ at now.form h g) → PushesLeaf (λ b. IsClosed I step b now h g) bound cost y ls ls
PushesLeaf-alone I step bound below cost enough now h g y threshold ls judge scaled above =
    let reached = reaches step cost enough now.duals.scale threshold (now.form.value +ℤ at now.form h g) judge.high scaled above in
    record {
      leaves = [];
      listed = sym (append-nil ls);
      below = record { reached = inl (reaches_bound step bound below cost enough now.duals.scale (now.form.value +ℤ at now.form h g) judge reached); listed = inl (inl reached, refl) };
    }

-- a node whose value reaches the cost is not listed
pub PushesLeaf-none : (step : ℕ) (bound below cost enough : ℤ) (scale : ℕ) (value : ℤ) (y : Placement) (threshold : ℤ) (ls : List Leaf) → IsJudge step bound below cost enough → threshold ≡ pos scale *ℤ enough → threshold <ℤ value
    → PushesLeaf (λ b. ReachesBound step b scale value) bound cost y ls ls
PushesLeaf-none step bound below cost enough scale value y threshold ls judge scaled above =
    let reached = reaches step cost enough scale threshold value judge.high scaled above in
    record {
      leaves = [];
      listed = sym (append-nil ls);
      below = record { reached = reaches_bound step bound below cost enough scale value judge reached; listed = inl (reached, refl) };
    }

-- a node whose value reaches the bound but not the cost is listed with the greatest bound that its value reaches
pub PushesLeaf-one : (step : ℕ) (bound below cost enough : ℤ) (scale : ℕ) (value : ℤ) (y : Placement) (low high : ℤ) (old new : List Leaf) (z : ℤ) → IsJudge step bound below cost enough → low ≡ pos scale *ℤ below → low <ℤ value
    → high ≡ pos scale *ℤ enough → value ≤ℤ high → IsGreatest (λ b. ReachesBound step b scale value) z → new ≡ old ++ leaf_at y z ∷ [] → PushesLeaf (λ b. ReachesBound step b scale value) bound cost y old new
PushesLeaf-one step bound below cost enough scale value y low high old new z judge low_is above high_is most greatest is = record {
  leaves = leaf_at y z ∷ [];
  listed = is;
  below = record {
    reached = reaches step bound below scale low value judge.low low_is above;
    listed = inr (z, greatest, less, refl);
  };
}
  where
    less : z <ℤ cost
    less =
        by_lt_z z cost (λ h. h) (λ h.
        let past = reached step cost enough scale high value judge.high high_is (λ k under. greatest.reached k (omega (arith, ints, under, h))) in
        absurd (omega (arith, ints, past, most)))

-- what is reached may be said otherwise
pub PushesLeaf-same : (P Q : ℤ → Type 0) (bound cost : ℤ) (y : Placement) (old new : List Leaf) → ((b : ℤ) → P b ↔ Q b) → PushesLeaf P bound cost y old new → PushesLeaf Q bound cost y old new
PushesLeaf-same P Q bound cost y old new same h = record {
  leaves = h.leaves;
  listed = h.listed;
  below = record {
    reached = (same bound).0 h.below.reached;
    listed = elim h.below.listed [
      | inl enough ↦ inl ((same cost).0 enough.0, enough.1)
      | inr one ↦ inr (one.0, record { reached = (same one.0).0 one.1.reached; greatest = λ b reaches. one.1.greatest b ((same b).1 reaches) }, one.2, one.3)
    ];
  };
}

-- what follows from what is known where an answer is `Ok`
pub on_ok : {X E : Type 0} (r : Result X E) (P Q : Type 0) → (P → Q) → OnOk r P → OnOk r Q
on_ok (Ok x) P Q f h = f h
on_ok (Err e) P Q f h = h

-- each child of a split has its cell among the lists
pub cell_listed : (I : Problem) (below : ℤ) (y : Placement) (now : Under) (fs ls : List ℕ) (side : Side) (own c : ℕ) (threshold : ℤ) → IsParent I below y now fs ls side own threshold → c + length y.facilities < y.size → IsListed fs ls (row_of side own c) (column_of side own c)
cell_listed I below y now fs ls side own c threshold h few =
    let cell = IsCellOf-child side y own c h.placement h.own_in few in
    record { row = omega (arith, cell.row, ap length h.rows); column = omega (arith, cell.column, ap length h.columns) }

-- the rows of a node's form are its free facilities
pub free_is : (I : Problem) (D : Duals) (y : Placement) (R : Form) → IsPlacement y → IsFormOf I D y R → count_of R ≡ free_count y
free_is I D y R is form = omega (arith, form.numbers.row_count, (facilities_of y is).count)

-- the placed facilities and the free ones are all
pub free_whole : (y : Placement) → IsPlacement y → length y.facilities + free_count y ≡ y.size
free_whole y is = omega (arith, (facilities_of y is).count)

-- what holds of a cell, said of its row and its column
pub of_cell : (F : ℕ → ℕ → Type 0) (h g r k : ℕ) → h ≡ r → g ≡ k → F h g → F r k
of_cell F h g r k row column x = subst (λ (i : ℕ). F i k) row (subst (F h) column x)

-- whether something is reached, said otherwise
pub value_judged : {E : Type 0} (r : Result Bool E) (A B P Q : Type 0) → (A → B) → (Q → P) → IfOk r (λ b. MatchBool b A (P → ⊥)) → IfOk r (λ b. MatchBool b B (Q → ⊥))
value_judged (Ok true) A B P Q f g h = f h
value_judged (Ok false) A B P Q f g h = λ q. h (g q)
value_judged (Err e) A B P Q f g h = tt

-- a scaled multiple, as it is passed and multiplied
pub scaled_read : (step : ℕ) (bound below : ℤ) (scale : ℕ) (threshold : ℤ) → IsGreatestBelow step bound below → threshold ≡ pos scale *ℤ to_z w128 (of_z w128 below) → threshold ≡ pos scale *ℤ below
scaled_read step bound below scale threshold h is = let small = h.small in is ∙ ap (λ z. pos scale *ℤ z) (far_read below (omega (arith, small)))
