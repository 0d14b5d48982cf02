-- The line of a node and the children of a split, in a text that begins with that of a valid tree.
use Rattle.std.proofs.Common.{◌≡◌, ℕ, zero, suc, ◌+◌, ◌<◌, ◌^◌, ◌++◌, List, [], ◌∷◌, length, get_or, ℤ, refl, sym, ◌∙◌, ap, subst, inl, inr, arith}
use Rattle.std.specs.Prelude.{codes, true, Option, None, Some, ◌⊎◌}
use Rattle.std.proofs.lemmas.List.{append_cancel_right}
use Rattle.qap_cost.specs.Instance.{Problem}
use Rattle.qap_cost.specs.Placement.{Placement, IsPlacement}
use Rattle.qap_cost.specs.Range.{AllLimited}
use Rattle.qap_lines.specs.LineText.{numbers_text}
use Rattle.pair_duals.proofs.Seatings.{facilities_of, same_count}
use Rattle.pair_duals.specs.PairDuals.{Duals}
use Rattle.pair_duals.specs.Reduced.{Form, IsChild, IsLine as Draws, count_of}
use Rattle.qap_proof.specs.Cell.{IsPlaceOf, own_on}
use Rattle.qap_proof.specs.Shape.{free_count}
use Rattle.qap_proof.specs.declared.error.ProofError.{ProofError}
use Rattle.qap_proof.specs.declared.side.Side.{Side}
use Rattle.qap_proof.specs.declared.side.Side.TheVariants.{Facility, Location}
use Rattle.proof_tree.proofs.Splits.{IsCellOf-child}
use Rattle.proof_tree.specs.Shape.{AllHaveShape, AreLimited, HasShape}
use Rattle.proof_tree.specs.Text.{marks, split_text}
use Rattle.proof_tree.specs.Tree.{Children, NodeDuals, PairRows, Tree, child_count, closed, column_of, child_on, grown, image, leaf, no_children, row_of, split}
use Rattle.proof_tree.specs.Valid.{AllValid, Begins, IsClosed, IsLined, ReachesBound, Under, Valid, under}
use Rattle.proof_check.specs.Acceptance.{IsInterruption}
use Rattle.proof_check.specs.Completeness.{BeginsChildren, BeginsLined, BeginsSplit, RefusesNode}
use Rattle.proof_check.specs.Lines.{AreMarks}
use Rattle.proof_check.specs.Walk.{own_of}
use Rattle.proof_check.proofs.SameForms.{AreSame, IsChild-same, IsClosed-same, IsLine-same, one_line}
use Rattle.proof_check.proofs.Passing.{bare_parts}
use Rattle.proof_check.proofs.SplitLines.{one_place, one_split}
use Rattle.proof_check.proofs.TreeWalks.{duals_without, marks_count}
use Rattle.proof_check.proofs.TreeLines.{bare_line, below_text, number_within, one_numbers, split_line}

-- ---- the line

-- each mark of children is one of the two
pub AreMarks-children : (ts : Children) → AreMarks (marks ts)
AreMarks-children ts = record { each = each ts }
  where
    each : (ts : Children) (i : ℕ) → i < length (marks ts) → (get_or (marks ts) i 0 ≡ 46) ⊎ (get_or (marks ts) i 0 ≡ 43)
    each no_children i inside = absurd (omega (arith, inside))
    each (closed rest) zero inside = inl refl
    each (closed rest) (suc i) inside = each rest i (omega (arith, inside))
    each (image m rest) zero inside = inr refl
    each (image m rest) (suc i) inside = each rest i (omega (arith, inside))
    each (grown t rest) zero inside = inr refl
    each (grown t rest) (suc i) inside = each rest i (omega (arith, inside))

refused_line : (t : Tree) (y : Placement) (line : List ℕ) (m : ℕ) (e : ProofError) → IsPlacement y → HasShape y true t → line ≡ bare_line t → m ≡ free_count y → RefusesNode m y.size line e → IsInterruption e
refused_line (leaf d) y line m e is shape line_is count refuses =
    inl (refuses.leaf d.u (subst (λ (k : ℕ). AreLimited k d.u) (sym count) shape.u) line_is)
refused_line (split d side number ts) y line m e is shape line_is count refuses =
    refuses.split side number (marks ts) d.u (number_within side y number shape.1 is shape.2) (marks_count ts ∙ shape.3 ∙ sym count) (AreMarks-children ts) (subst (λ (k : ℕ). AreLimited k d.u) (sym count) shape.0.u) (ap (λ l. l ++ 10 ∷ []) line_is)

-- the line of a tree is refused only by an interruption
pub lined_refused : (P : Tree → Type 0) (y : Placement) (line lent : List ℕ) (m n : ℕ) (e : ProofError) (old : Option (List ℕ)) (rest : List ℕ) → IsPlacement y → lent ≡ line → m ≡ free_count y → n ≡ y.size
    → RefusesNode m n lent e → BeginsLined y P line old rest → IsInterruption e
lined_refused P y line lent m n e old rest is same count size refuses h =
    refused_line h.has.tree y lent m e is h.has.shape (same ∙ (bare_parts h.has.tree y true line old rest is h.has.shape h.bare h.has.current).0) count (subst (λ (k : ℕ). RefusesNode m k lent e) size refuses)

-- ---- leaves

-- duals without pair duals are their numbers
duals_are : (d : NodeDuals) (u : List ℤ) → d.own ≡ None → d.u ≡ u → d ≡ duals_without u
duals_are d u bare same = λ i. record { own = bare i; u = same i }

leaf_here : (t : Tree) (P : Tree → Type 0) (y : Placement) (u : List ℤ) (old : Option (List ℕ)) (rest : List ℕ) → AllLimited u → HasShape y true t → own_of t ≡ None
    → codes "x" ++ numbers_text u ≡ bare_line t → old ≡ Some (below_text t ++ rest) → P t → (old ≡ Some rest) × P (leaf (duals_without u))
leaf_here (leaf d) P y u old rest limited shape bare line_is known h =
    let same : d.u ≡ u = one_numbers (codes "x") d.u u shape.u.limited limited (sym line_is) in
    (known, subst (λ (e : NodeDuals). P (leaf e)) (duals_are d u bare same) h)
leaf_here (split d Facility number ts) P y u old rest limited shape bare line_is known h = let e : 120 ≡ 115 = ap (λ l. get_or l 0 0) line_is in absurd (omega (arith, e))
leaf_here (split d Location number ts) P y u old rest limited shape bare line_is known h = let e : 120 ≡ 116 = ap (λ l. get_or l 0 0) line_is in absurd (omega (arith, e))

-- where the line is that of a leaf, the tree is one
pub lined_leaf : (P : Tree → Type 0) (y : Placement) (line : List ℕ) (u : List ℤ) (old : Option (List ℕ)) (rest : List ℕ) → IsPlacement y → AllLimited u → line ≡ codes "x" ++ numbers_text u
    → BeginsLined y P line old rest → (old ≡ Some rest) × P (leaf (duals_without u))
lined_leaf P y line u old rest is limited line_is h =
    let parts = bare_parts h.has.tree y true line old rest is h.has.shape h.bare h.has.current in
    leaf_here h.has.tree P y u old rest limited h.has.shape h.bare (sym line_is ∙ parts.0) parts.1 h.has.holds

bare_begins : (I : Problem) (y : Placement) (D : Duals) (R : Form) (d : NodeDuals) (now : Under) → d.own ≡ None → IsLined I y (Some (under D R)) d now → (now.duals ≡ D) × (v : List ℤ) × Draws R now.form d.u v
bare_begins I y D R d now bare h =
    let b = subst (λ o. Begins I y (Some (under D R)) o now.duals h.start) bare h.begins in
    (b.0, h.v, subst (λ (S : Form). Draws S now.form d.u h.v) b.1 h.line)

-- a leaf that is valid reaches the bound
pub leaf_reaches : (I : Problem) (step : ℕ) (bound : ℤ) (y : Placement) (D : Duals) (R S : Form) (u v : List ℤ) → Draws R S u v → Valid I step bound y (Some (under D R)) (leaf (duals_without u)) → ReachesBound step bound D.scale S.value
leaf_reaches I step bound y D R S u v drawn h =
    let b = bare_begins I y D R (duals_without u) h.0 refl h.1 in
    let reaches = subst (λ (E : Duals). ReachesBound step bound E.scale h.0.form.value) b.0 h.2 in
    subst (ReachesBound step bound D.scale) (one_line R h.0.form S u b.1 v b.2 drawn).value reaches

-- ---- children under forms that are the same

-- the cell of a child is one of a form of the node
pub record IsCellOfForm (R : Form) (h g : ℕ) : Type 0 where
  pub row : h < count_of R
  pub column : g < count_of R

-- each child has its cell
pub cell_of_form : (R : Form) (y : Placement) (side : Side) (own c : ℕ) → IsPlacement y → count_of R ≡ free_count y → own < length (own_on side y) → c + length y.facilities < y.size → IsCellOfForm R (row_of side own c) (column_of side own c)
cell_of_form R y side own c is count free few =
    let cell = IsCellOf-child side y own c is free few in
    let fs = (facilities_of y is).count in
    record { row = omega (arith, cell.row, count, fs); column = omega (arith, cell.column, count, fs, same_count y is) }

-- children that are valid under a form are so under each that is the same
pub AllValid-same : (ts : Children) (I : Problem) (step : ℕ) (bound : ℤ) (y : Placement) (now : Under) (D : Duals) (S : Form) (side : Side) (own c : ℕ) → IsPlacement y → own < length (own_on side y) → c + child_count ts + length y.facilities ≡ y.size → count_of now.form ≡ free_count y
    → now.duals ≡ D → AreSame now.form S → AllValid I step bound y now side own c ts → AllValid I step bound y (under D S) side own c ts
AllValid-same no_children I step bound y now D S side own c is free few count duals same h = tt
AllValid-same (closed rest) I step bound y now D S side own c is free few count duals same h =
    let row = row_of side own c in
    let column = column_of side own c in
    let cell = cell_of_form now.form y side own c is count free (omega (arith, few)) in
    (subst (λ (E : Duals). IsClosed I step bound (under E S) row column) duals (IsClosed-same I step bound now S row column cell.row cell.column same h.0), AllValid-same rest I step bound y now D S side own (c + 1) is free (omega (arith, few)) count duals same h.1)
AllValid-same (image m rest) I step bound y now D S side own c is free few count duals same h = (h.0, AllValid-same rest I step bound y now D S side own (c + 1) is free (omega (arith, few)) count duals same h.1)
AllValid-same (grown t rest) I step bound y now D S side own c is free few count duals same h =
    let row = row_of side own c in
    let column = column_of side own c in
    let cell = cell_of_form now.form y side own c is count free (omega (arith, few)) in
    let child = IsChild-same I now.duals now.form S h.0 row column cell.row cell.column same h.1 in (
      h.0,
      subst (λ (E : Duals). IsChild I E S row column h.0) duals child,
      subst (λ (E : Duals). Valid I step bound (child_on side y own c) (Some (under E h.0)) t) duals h.2,
      AllValid-same rest I step bound y now D S side own (c + 1) is free (omega (arith, few)) count duals same h.3,
    )

-- ---- splits

split_here : (t : Tree) (P : Tree → Type 0) (Q : ℕ → Children → Type 0) (y : Placement) (side : Side) (number : ℕ) (marked : List ℕ) (u : List ℤ) (old : Option (List ℕ)) (rest : List ℕ) → IsPlacement y → number < 10 ^ 20 → length marked ≡ free_count y → AllLimited u
    → HasShape y true t → own_of t ≡ None → split_line side number marked u ≡ bare_line t → old ≡ Some (below_text t ++ rest) → P t
    → ((own : ℕ) (ts : Children) → IsPlaceOf (own_on side y) number own → P (split (duals_without u) side number ts) → Q own ts) → BeginsSplit y side number Q marked old rest
split_here (leaf d) P Q y Facility number marked u old rest is small long limited shape bare line_is known h f = let e : 115 ≡ 120 = ap (λ l. get_or l 0 0) line_is in absurd (omega (arith, e))
split_here (leaf d) P Q y Location number marked u old rest is small long limited shape bare line_is known h f = let e : 116 ≡ 120 = ap (λ l. get_or l 0 0) line_is in absurd (omega (arith, e))
split_here (split d side' number' ts) P Q y side number marked u old rest is small long limited shape bare line_is known h f =
    let inside = number_within side' y number' shape.1 is shape.2 in
    let one = one_split side side' number number' marked (marks ts) u d.u small (omega (arith, inside, is.small)) (long ∙ sym shape.3 ∙ sym (marks_count ts)) limited shape.0.u.limited line_is in
    let place = subst (λ (x : Side). IsPlaceOf (own_on x y) number shape.1) (sym one.sides) (subst (λ (k : ℕ). IsPlaceOf (own_on side' y) k shape.1) (sym one.numbers) shape.2) in
    let shapes = subst (λ (x : Side). AllHaveShape y x shape.1 0 ts) (sym one.sides) shape.4 in
    let tree = subst (λ (x : Side). P (split (duals_without u) x number ts)) (sym one.sides)
    (subst (λ (k : ℕ). P (split (duals_without u) side' k ts)) (sym one.numbers)
    (subst (λ (e : NodeDuals). P (split e side' number' ts)) (duals_are d u bare (sym one.duals)) h)) in
    record {
      own = shape.1;
      place = place;
      below = record { children = ts; known = known; marks_are = sym one.marks; shapes = shapes; holds = f shape.1 ts place tree };
    }

-- where the line is that of a split, the tree is one
pub lined_split : (P : Tree → Type 0) (Q : ℕ → Children → Type 0) (y : Placement) (line : List ℕ) (side : Side) (number : ℕ) (marked : List ℕ) (u : List ℤ) (old : Option (List ℕ)) (rest : List ℕ) → IsPlacement y → number < 10 ^ 20 → length marked ≡ free_count y → AllLimited u → line ++ 10 ∷ [] ≡ split_text side number marked u
    → ((own : ℕ) (ts : Children) → IsPlaceOf (own_on side y) number own → P (split (duals_without u) side number ts) → Q own ts) → BeginsLined y P line old rest → BeginsSplit y side number Q marked old rest
lined_split P Q y line side number marked u old rest is small long limited line_is f h =
    let parts = bare_parts h.has.tree y true line old rest is h.has.shape h.bare h.has.current in
    split_here h.has.tree P Q y side number marked u old rest is small long limited h.has.shape h.bare (sym (append_cancel_right line (split_line side number marked u) (10 ∷ []) line_is) ∙ parts.0) parts.1 h.has.holds f

-- the children of a valid split are valid under the form after its line
pub split_valid : (I : Problem) (step : ℕ) (bound : ℤ) (y : Placement) (D : Duals) (R S : Form) (side : Side) (number : ℕ) (u v : List ℤ) (own : ℕ) (ts : Children) → IsPlacement y → count_of R ≡ free_count y → Draws R S u v → IsPlaceOf (own_on side y) number own
    → Valid I step bound y (Some (under D R)) (split (duals_without u) side number ts) → AllValid I step bound y (under D S) side own 0 ts
split_valid I step bound y D R S side number u v own ts is count drawn at h =
    let b = bare_begins I y D R (duals_without u) h.0 refl h.2 in
    let same : AreSame h.0.form S = one_line R h.0.form S u b.1 v b.2 drawn in
    let rows : count_of h.0.form ≡ free_count y = ap length b.2.rows ∙ count in
    let valid = AllValid-same ts I step bound y h.0 D S side h.1 0 is h.3.within (omega (arith, h.4)) rows b.0 same h.5 in
    subst (λ (k : ℕ). AllValid I step bound y (under D S) side k 0 ts) (one_place side y number h.1 own is h.3 at) valid

-- the children are those on the free one that was found
pub split_children : (P : ℕ → Children → Type 0) (y : Placement) (side : Side) (number own : ℕ) (marked : List ℕ) (old : Option (List ℕ)) (rest : List ℕ) → IsPlacement y → IsPlaceOf (own_on side y) number own
    → BeginsSplit y side number P marked old rest → BeginsChildren y side own 0 (P own) marked old rest
split_children P y side number own marked old rest is at h =
    subst (λ (k : ℕ). BeginsChildren y side k 0 (P k) marked old rest) (one_place side y number h.own own is h.place at) h.below

lined_same : (I : Problem) (y : Placement) (D : Duals) (R S : Form) (d : NodeDuals) (now : Under) → AreSame R S → IsLined I y (Some (under D R)) d now → IsLined I y (Some (under D S)) d now
lined_same I y D R S d now same h = begun d.own h.start h.begins h.line
  where
    begun : (o : Option PairRows) (start : Form) → Begins I y (Some (under D R)) o now.duals start → Draws start now.form d.u h.v → IsLined I y (Some (under D S)) (record { own = o; u = d.u }) now
    begun None start b line = record { start = S; v = h.v; begins = (b.0, refl); line = IsLine-same R S now.form d.u h.v same (subst (λ (Q : Form). Draws Q now.form d.u h.v) b.1 line) }
    begun (Some P) start b line = record { start = start; v = h.v; begins = b; line = line }

-- a tree that is valid under a form is so under each that is the same
pub Valid-same : (t : Tree) (I : Problem) (step : ℕ) (bound : ℤ) (y : Placement) (D : Duals) (R S : Form) → AreSame R S → Valid I step bound y (Some (under D R)) t → Valid I step bound y (Some (under D S)) t
Valid-same (leaf d) I step bound y D R S same h = (h.0, lined_same I y D R S d h.0 same h.1, h.2)
Valid-same (split d side number ts) I step bound y D R S same h = (h.0, h.1, lined_same I y D R S d h.0 same h.2, h.3, h.4, h.5)
