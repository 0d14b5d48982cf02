use Rattle.std.proofs.Common.{◌≡◌, ◌≢◌, ℕ, ◌+◌, ◌-◌, ◌*◌, ◌<◌, ◌≤◌, ◌++◌, ◌∷◌, [], List, length, take, drop, get_or, ℤ, pos, refl, sym, ◌∙◌, ap, ap₂, subst, inl, inr, arith, length-append}
use Rattle.std.specs.Prelude.{codes, true, Some}
use Rattle.std.specs.Global.{Vec}
use Rattle.std.proofs.lemmas.Int.{ints}
use Rattle.std.proofs.lemmas.Result.{err_from_is_err_and}
use Rattle.qap_cost.specs.Placement.{Placement, IsPlacement, free_facilities}
use Rattle.qap_lines.proofs.NumberLists.{AllLimited-one}
use Rattle.qap_lines.specs.Number.{IsNamed}
use Rattle.pair_duals.specs.Reduced.{IsChild, IsFormOf, IsLine}
use Rattle.pair_duals.specs.Seats.{child_at}
use Rattle.qap_proof.specs.Shape.{free_count}
use Rattle.qap_proof.specs.declared.error.ProofError.TheVariants.{CutTooLow}
use Rattle.proof_tree.proofs.Splits.{IsCellOf, IsCellOf-child, IsPlacement-cell}
use Rattle.proof_tree.specs.Shape.{ArePairRows}
use Rattle.proof_tree.specs.Text.{tree_text}
use Rattle.proof_tree.specs.Tree.{PairRows, row_of, column_of, child_on}
use Rattle.proof_tree.specs.Valid.{AllValid, AreListed, ReachesBound, Valid, under}
use Rattle.proof_check.specs.Completeness.{Any, BeginsChildren, BeginsTree, BeginsWithRows, Finds, HasChildren, HasOthers, HasTree, Leaves, LeavesOthers, PassesOthers}
use Rattle.proof_check.specs.Lines.{IsNodeLine}
use Rattle.proof_check.specs.Rows.{lists_of, rows_of}
use Rattle.proof_check.specs.Walk.{PushesLeaf, SkimsChildren, SkimsTree, WalksChildren, WalksTree, is_there}
use Rattle.proof_check.specs.declared.node_line.NodeLine.TheVariants.{Leaf, Split as SplitsAt}
use Rattle.proof_check.proofs.Closing.{cell_inside, cell_listed, free_is, free_whole}
use Rattle.proof_check.proofs.Lines.{named-is}
use Rattle.proof_check.proofs.Judging.{Judges, JudgesChild, child_found, closed_found, closed_sound, image_judged, judged, others_are, tree_judged}
use Rattle.proof_check.proofs.Passing.{BeginsLined-first, BeginsOwn-first, Finds-stronger, Leaves-weaker, own_fits, own_lined, own_next, own_rows, own_rows_are, own_scale, own_shape, own_valid}
use Rattle.proof_check.proofs.Minima.{drawn_value, value_within}
use Rattle.proof_check.proofs.PassingChildren.{IsPassed-all, IsPassed-more, IsPassed-none, LeavesOthers-image, LeavesOthers-tree, child_begins, children_with, closed_child, passed_next}
use Rattle.proof_check.proofs.PassingLines.{leaf_reaches, lined_leaf, lined_refused, lined_split, split_children, split_valid}
use Rattle.proof_check.proofs.ReadLines.{starts_first, starts_otherwise}
use Rattle.proof_check.proofs.TreeLines.{bare}
use Rattle.proof_check.proofs.TreeWalks.{SkimsLined-leaf, SkimsLined-split, SkimsTree-own, WalksChildren-next, WalksChildren-none, WalksLined-leaf, WalksLined-split, WalksTree-own, all_marks}
use Rattle.proof_check.proofs.walking.+walking.Goals as goal

pub walk_below-returns-then-starts_with-clause-passed : goal.walk_below-returns-then-starts_with-clause-passed
walk_below-returns-then-starts_with-clause-passed g t c =
    let j = c.args.judge.now in
    let line = c.args.walk.now.cursor.line.items in
    let first = starts_first c.deref.result.now line 112 c.starts_with.result c.deref.ensures.value c.if-starts_with.true c.starts_with.ensures.value in
    Leaves-weaker _ _ _ c.walk_own.result (λ rest h. BeginsOwn-first Any c.args.node.now true line _ rest c.requires.placement first h) c.walk_own.ensures.passed

pub walk_below-returns-then-starts_with-clause-walked : goal.walk_below-returns-then-starts_with-clause-walked
walk_below-returns-then-starts_with-clause-walked g t c =
    let j = c.args.judge.now in
    let line = c.args.walk.now.cursor.line.items in
    let first = starts_first c.deref.result.now line 112 c.starts_with.result c.deref.ensures.value c.if-starts_with.true c.starts_with.ensures.value in
    let now = under c.args.duals.now c.args.form.now in
    judged c.walk_own.result _ _ _ _ (λ w. w) (λ e f. Finds-stronger _ _ _ _ e (λ s. s) (λ rest h. BeginsOwn-first (Valid j.instance.now j.step j.bound c.args.node.now (Some now)) c.args.node.now true line _ rest c.requires.placement first h) f) (c.walk_own.ensures.walked (Some now))

pub walk_below-returns-else-starts_with-clause-passed : goal.walk_below-returns-else-starts_with-clause-passed
walk_below-returns-else-starts_with-clause-passed g t c =
    let j = c.args.judge.now in
    let line = c.args.walk.now.cursor.line.items in
    let other = starts_otherwise c.deref.result.now line 112 c.starts_with.result (omega arith) c.deref.ensures.value c.if-starts_with.false c.starts_with.ensures.value in
    Leaves-weaker _ _ _ c.walk_lined.result (λ rest h. BeginsLined-first Any c.args.node.now line _ rest other h) c.walk_lined.ensures.passed

pub walk_below-returns-else-starts_with-clause-walked : goal.walk_below-returns-else-starts_with-clause-walked
walk_below-returns-else-starts_with-clause-walked g t c =
    let j = c.args.judge.now in
    let line = c.args.walk.now.cursor.line.items in
    let other = starts_otherwise c.deref.result.now line 112 c.starts_with.result (omega arith) c.deref.ensures.value c.if-starts_with.false c.starts_with.ensures.value in
    let now = under c.args.duals.now c.args.form.now in
    judged c.walk_lined.result _ _ _ _ (λ w. w.walked) (λ e f. Finds-stronger _ _ _ _ e (λ s. s.skimmed) (λ rest h. BeginsLined-first (Valid j.instance.now j.step j.bound c.args.node.now (Some now)) c.args.node.now line _ rest other h) f) c.walk_lined.ensures.walked

pub walk_own-returns-in_default-clause-passed : goal.walk_own-returns-in_default-clause-passed
walk_own-returns-in_default-clause-passed g t c =
    let j = c.args.judge.now in
    let y = c.args.node.now in
    let line = c.args.walk.now.cursor.line.items in (
      inl refl,
      λ rest h.
          let rows = own_shape Any y line _ rest h in
          absurd (c.in_default.ensures h.rows.scale rows.positive rows.scale
          (subst (λ (l : List ℕ). IsNamed (codes "p") l (pos h.rows.scale ∷ [])) (sym c.deref.ensures.value) (own_scale Any y line _ rest h))),
    )

pub walk_own-returns-in_err-rows-clause-passed : goal.walk_own-returns-in_err-rows-clause-passed
walk_own-returns-in_err-rows-clause-passed g t c =
    let p = err_from_is_err_and c.from_residual.result c.from_residual.ensures.1 in
    let j = c.args.judge.now in
    let y = c.args.node.now in
    let line = c.args.walk.now.cursor.line.items in
    let m_is : c.size.result - c.depth.result ≡ free_count y = ap₂ (λ a b. a - b) c.size.ensures.value c.depth.ensures.value in
    rw (p.1, p.2) (
      (c.in_err-rows.ensures {u = tt}).class,
      λ rest h.
          (c.in_err-rows.ensures {u = tt}).passed h.rows.rows _ (subst (λ (m : ℕ). BeginsWithRows m h.rows.rows c.args.reader.now.left (tree_text (bare h.has.tree) ++ rest)) (sym m_is) (own_rows Any y line _ rest h)),
    )

pub walk_own-returns-in_err-advance-clause-passed : goal.walk_own-returns-in_err-advance-clause-passed
walk_own-returns-in_err-advance-clause-passed g t c =
    let p = err_from_is_err_and c.from_residual-in_err-advance.result c.from_residual-in_err-advance.ensures.1 in
    let j = c.args.judge.now in
    let y = c.args.node.now in
    let line = c.args.walk.now.cursor.line.items in
    let m_is : c.size.result - c.depth.result ≡ free_count y = ap₂ (λ a b. a - b) c.size.ensures.value c.depth.ensures.value in
    rw (p.1, p.2) (
      (c.in_err-advance.ensures {u = tt}).class,
      λ rest h.
          let own = own_rows_are Any y line c.deref.result.now _ _ rest c.in-Some.scale (c.size.result - c.depth.result) (lists_of c.in_ok-rows.rows.items) h c.deref.ensures.value c.in-Some.ensures.2 m_is c.in_ok-rows.ensures.passed in
          (c.in_err-advance.ensures {u = tt}).refused _ _ (own_next Any y line _ _ rest h c.requires.placement own.1),
    )

pub walk_own-returns-in_err-skim_lined-clause-passed : goal.walk_own-returns-in_err-skim_lined-clause-passed
walk_own-returns-in_err-skim_lined-clause-passed g t c =
    let p = err_from_is_err_and c.from_residual-in_err-skim_lined.result c.from_residual-in_err-skim_lined.ensures.1 in
    let j = c.args.judge.now in
    let y = c.args.node.now in
    let line = c.args.walk.now.cursor.line.items in
    let m_is : c.size.result - c.depth.result ≡ free_count y = ap₂ (λ a b. a - b) c.size.ensures.value c.depth.ensures.value in
    let read = c.in_ok-advance.ensures in
    let skimmed = (c.in_err-skim_lined.ensures {u = tt}).passed in
    rw (p.1, p.2) (
      skimmed.0,
      λ rest h. skimmed.1 rest (
          let own = own_rows_are Any y line c.deref.result.now _ _ rest c.in-Some.scale (c.size.result - c.depth.result) (lists_of c.in_ok-rows.rows.items) h c.deref.ensures.value c.in-Some.ensures.2 m_is c.in_ok-rows.ensures.passed in
          own_lined Any Any y line c.advance.new.cursor.line.items _ _ _ rest h c.requires.placement tt own.1 read.read.consumed read.whole),
    )

pub walk_own-returns-in_default-2-clause-passed : goal.walk_own-returns-in_default-2-clause-passed
walk_own-returns-in_default-2-clause-passed g t c =
    let j = c.args.judge.now in
    let y = c.args.node.now in
    let line = c.args.walk.now.cursor.line.items in
    let m_is : c.size.result - c.depth.result ≡ free_count y = ap₂ (λ a b. a - b) c.size.ensures.value c.depth.ensures.value in
    let read = c.in_ok-advance.ensures in
    λ rest h. c.in_ok-skim_lined.ensures.passed rest (
    let own = own_rows_are Any y line c.deref.result.now _ _ rest c.in-Some.scale (c.size.result - c.depth.result) (lists_of c.in_ok-rows.rows.items) h c.deref.ensures.value c.in-Some.ensures.2 m_is c.in_ok-rows.ensures.passed in
    own_lined Any Any y line c.advance.new.cursor.line.items _ _ _ rest h c.requires.placement tt own.1 read.read.consumed read.whole)

pub walk_own-returns-in_default-2-clause-walked : goal.walk_own-returns-in_default-2-clause-walked
walk_own-returns-in_default-2-clause-walked g t c = λ above.
    let j = c.args.judge.now in
    let y = c.args.node.now in
    let line = c.args.walk.now.cursor.line.items in
    let scale = c.in-Some.scale in
    let rows = lists_of c.in_ok-rows.rows.items in
    let P = rows_of scale rows in
    let said = c.in-Some.ensures in
    let read = c.in_ok-rows.ensures.read in
    let advanced = c.in_ok-advance.ensures in
    let m_is : c.size.result - c.depth.result ≡ free_count y = ap₂ (λ a b. a - b) c.size.ensures.value c.depth.ensures.value in
    let shape : ArePairRows (free_count y) P = subst (λ (m : ℕ). ArePairRows m P) m_is (record { positive = said.0; scale = said.1; count = read.count; each = read.each }) in
    let line_is = sym c.deref.ensures.value ∙ named-is (codes "p") c.deref.result.now (pos scale ∷ []) said.2 (AllLimited-one (pos scale) (omega (arith, said.1))) in
    let none = rw c.in_default-2.is at c.in_ok-duals.ensures.none in
    record {
      kind = refl;
      skimmed = SkimsTree-own y (is_there above) P line c.advance.new.cursor.line.items _ _ _ _ line_is shape read.consumed advanced.read c.in_ok-skim_lined.ensures.skimmed;
      refused = λ rest h.
          let own = own_rows_are (Valid j.instance.now j.step j.bound y above) y line c.deref.result.now _ _ rest c.in-Some.scale (c.size.result - c.depth.result) (lists_of c.in_ok-rows.rows.items) h c.deref.ensures.value c.in-Some.ensures.2 m_is c.in_ok-rows.ensures.passed in
          let starts = own_fits j.instance.now j.step j.bound y above line _ rest h in
          let same : h.rows ≡ rows_of scale (lists_of c.deref-2.result.now) = own.0 ∙ ap (λ (l : List (Vec ℤ)). rows_of scale (lists_of l)) (sym c.deref-2.ensures.value) in
          none starts.duals (subst (λ (Q : PairRows). AreListed y Q starts.duals) same starts.listed) starts.fit;
    }

pub walk_own-returns-clause-passed : goal.walk_own-returns-clause-passed
walk_own-returns-clause-passed g t c =
    let j = c.args.judge.now in
    let y = c.args.node.now in
    let line = c.args.walk.now.cursor.line.items in
    let m_is : c.size.result - c.depth.result ≡ free_count y = ap₂ (λ a b. a - b) c.size.ensures.value c.depth.ensures.value in
    let read = c.in_ok-advance.ensures in
    Leaves-weaker _ _ _ c.walk_lined.result (λ rest h.
    let own = own_rows_are Any y line c.deref.result.now _ _ rest c.in-Some.scale (c.size.result - c.depth.result) (lists_of c.in_ok-rows.rows.items) h c.deref.ensures.value c.in-Some.ensures.2 m_is c.in_ok-rows.ensures.passed in
    own_lined Any Any y line c.advance.new.cursor.line.items _ _ _ rest h c.requires.placement tt own.1 read.read.consumed read.whole) c.walk_lined.ensures.passed

pub walk_own-returns-clause-walked : goal.walk_own-returns-clause-walked
walk_own-returns-clause-walked g t c = λ above.
    let j = c.args.judge.now in
    let y = c.args.node.now in
    let line = c.args.walk.now.cursor.line.items in
    let I = j.instance.now in
    let scale = c.in-Some.scale in
    let rows = lists_of c.in_ok-rows.rows.items in
    let P = rows_of scale rows in
    let said = c.in-Some.ensures in
    let read = c.in_ok-rows.ensures.read in
    let advanced = c.in_ok-advance.ensures in
    let m_is : c.size.result - c.depth.result ≡ free_count y = ap₂ (λ a b. a - b) c.size.ensures.value c.depth.ensures.value in
    let shape : ArePairRows (free_count y) P = subst (λ (m : ℕ). ArePairRows m P) m_is (record { positive = said.0; scale = said.1; count = read.count; each = read.each }) in
    let line_is = sym c.deref.ensures.value ∙ named-is (codes "p") c.deref.result.now (pos scale ∷ []) said.2 (AllLimited-one (pos scale) (omega (arith, said.1))) in
    let found = rw c.in-Some-2.is at c.in_ok-duals.ensures.found in
    let D = c.in-Some-2.duals in
    let R = c.start.new.self in
    let next = c.advance.new.cursor.line.items in
    let listed : AreListed y P D = subst (λ (l : List (Vec ℤ)). AreListed y (rows_of scale (lists_of l)) D) c.deref-2.ensures.value found.0 in
    judged c.walk_lined.result _ _ _ _ (λ w. WalksTree-own I j.step j.bound j.cost y above D R P line next _ _ _ _ _ _ line_is shape read.consumed advanced.read listed found.1 c.in_ok-start.ensures.start w)
    (λ e f. Finds-stronger _ _ _ _ e (λ s. SkimsTree-own y (is_there above) P line next _ _ _ _ line_is shape read.consumed advanced.read s)
    (λ rest h.
    let own = own_rows_are (Valid j.instance.now j.step j.bound y above) y line c.deref.result.now _ _ rest c.in-Some.scale (c.size.result - c.depth.result) (lists_of c.in_ok-rows.rows.items) h c.deref.ensures.value c.in-Some.ensures.2 m_is c.in_ok-rows.ensures.passed in
    let here : AreListed y h.rows D = subst (λ (Q : PairRows). AreListed y Q D) (sym own.0) listed in
    own_lined (Valid j.instance.now j.step j.bound y above) (Valid I j.step j.bound y (Some (under D R))) y line next _ _ _ rest h c.requires.placement (own_valid I j.step j.bound y above D R line _ rest h c.requires.placement here c.in_ok-start.ensures.start) own.1 advanced.read.consumed advanced.whole) f) c.walk_lined.ensures.walked

pub walk_lined-check_value-requires-clause-small : goal.walk_lined-check_value-requires-clause-small
walk_lined-check_value-requires-clause-small g t c =
    let value_is = drawn_value c.draw.new.form c.value.result c.value.ensures.value c.value.ensures.reach in
    let small = value_within c.draw.new.form c.value.ensures.reach in
    omega (arith, ints, value_is, small)

pub walk_lined-returns-in_err-line-clause-passed : goal.walk_lined-returns-in_err-line-clause-passed
walk_lined-returns-in_err-line-clause-passed g t c =
    let p = err_from_is_err_and c.from_residual.result c.from_residual.ensures.1 in
    let j = c.args.judge.now in
    let I = j.instance.now in
    let y = c.args.node.now in
    let D = c.args.duals.now in
    let old = c.args.form.now in
    let line = c.args.walk.now.cursor.line.items in
    let m = c.free-m.result in
    let count = free_is I D y old c.requires.placement c.requires.form in
    let same : m ≡ free_count y = c.free-m.ensures.value ∙ count in
    let refused = c.in_err-line.ensures {u = tt} in
    rw (p.1, p.2) (
      refused.class,
      λ rest h.
          lined_refused Any y line c.deref.result.now m c.size.result _ _ rest c.requires.placement c.deref.ensures.value same c.size.ensures.value refused.refused h,
    )

pub walk_lined-returns-then-reached-clause-passed : goal.walk_lined-returns-then-reached-clause-passed
walk_lined-returns-then-reached-clause-passed g t c =
    let j = c.args.judge.now in
    let I = j.instance.now in
    let y = c.args.node.now in
    let D = c.args.duals.now in
    let old = c.args.form.now in
    let line = c.args.walk.now.cursor.line.items in
    let m = c.free-m.result in
    let count = free_is I D y old c.requires.placement c.requires.form in
    let same : m ≡ free_count y = c.free-m.ensures.value ∙ count in
    let u = c.in-Leaf.u in
    let said : IsNodeLine m c.deref.result.now (Leaf u) = subst (IsNodeLine m c.deref.result.now) c.in-Leaf.is c.in_ok-line.ensures.found in
    let line_is = sym c.deref.ensures.value ∙ said.1 in
    λ rest h. (lined_leaf Any y line u.items _ rest c.requires.placement said.0.limited line_is h).0

pub walk_lined-returns-in-Leaf-clause-passed : goal.walk_lined-returns-in-Leaf-clause-passed
walk_lined-returns-in-Leaf-clause-passed g t c =
    let j = c.args.judge.now in
    let I = j.instance.now in
    let y = c.args.node.now in
    let D = c.args.duals.now in
    let old = c.args.form.now in
    let line = c.args.walk.now.cursor.line.items in
    let m = c.free-m.result in
    let count = free_is I D y old c.requires.placement c.requires.form in
    let same : m ≡ free_count y = c.free-m.ensures.value ∙ count in
    let u = c.in-Leaf.u in
    let said : IsNodeLine m c.deref.result.now (Leaf u) = subst (IsNodeLine m c.deref.result.now) c.in-Leaf.is c.in_ok-line.ensures.found in
    let line_is = sym c.deref.ensures.value ∙ said.1 in
    λ rest h. (lined_leaf Any y line u.items _ rest c.requires.placement said.0.limited line_is h).0

pub walk_lined-returns-then-reached-clause-walked : goal.walk_lined-returns-then-reached-clause-walked
walk_lined-returns-then-reached-clause-walked g t c =
    let j = c.args.judge.now in
    let I = j.instance.now in
    let y = c.args.node.now in
    let D = c.args.duals.now in
    let old = c.args.form.now in
    let line = c.args.walk.now.cursor.line.items in
    let m = c.free-m.result in
    let count = free_is I D y old c.requires.placement c.requires.form in
    let same : m ≡ free_count y = c.free-m.ensures.value ∙ count in
    let u = c.in-Leaf.u in
    let said : IsNodeLine m c.deref.result.now (Leaf u) = subst (IsNodeLine m c.deref.result.now) c.in-Leaf.is c.in_ok-line.ensures.found in
    let line_is = sym c.deref.ensures.value ∙ said.1 in
    let new = c.draw.new.form in
    let put = c.in_ok-draw-in-Leaf.ensures.line in
    let drawn : IsLine old new u.items put.0 = subst (λ (l : List ℤ). IsLine old new l put.0) c.deref-in-Leaf.ensures.value put.1 in
    let value_is = drawn_value new c.value.result c.value.ensures.value c.value.ensures.reach in
    let pushed = rw c.if-reached.true at c.in_ok-reached-in-Leaf.ensures in
    let before = c.args.walk.now.leaves.items in
    let after = c.check_value.new.leaves.items in
    WalksLined-leaf I j.step j.bound j.cost y D old new m u.items put.0 line _ before after same said.0 line_is drawn
    (subst (λ (z : ℤ). PushesLeaf (λ b. ReachesBound j.step b D.scale z) j.bound j.cost y before after) value_is pushed)

pub walk_lined-returns-in-Leaf-clause-walked : goal.walk_lined-returns-in-Leaf-clause-walked
walk_lined-returns-in-Leaf-clause-walked g t c =
    let j = c.args.judge.now in
    let I = j.instance.now in
    let y = c.args.node.now in
    let D = c.args.duals.now in
    let old = c.args.form.now in
    let line = c.args.walk.now.cursor.line.items in
    let m = c.free-m.result in
    let count = free_is I D y old c.requires.placement c.requires.form in
    let same : m ≡ free_count y = c.free-m.ensures.value ∙ count in
    let u = c.in-Leaf.u in
    let said : IsNodeLine m c.deref.result.now (Leaf u) = subst (IsNodeLine m c.deref.result.now) c.in-Leaf.is c.in_ok-line.ensures.found in
    let line_is = sym c.deref.ensures.value ∙ said.1 in
    let new = c.draw.new.form in
    let put = c.in_ok-draw-in-Leaf.ensures.line in
    let drawn : IsLine old new u.items put.0 = subst (λ (l : List ℤ). IsLine old new l put.0) c.deref-in-Leaf.ensures.value put.1 in
    let value_is = drawn_value new c.value.result c.value.ensures.value c.value.ensures.reach in
    let low = rw c.if-reached.false at c.in_ok-reached-in-Leaf.ensures in
    record {
      kind = refl;
      skimmed = SkimsLined-leaf y m u.items line _ same said.0 line_is;
      refused = λ rest h.
          let here = lined_leaf (Valid I j.step j.bound y (Some (under D old))) y line u.items _ rest c.requires.placement said.0.limited line_is h in
          low (subst (ReachesBound j.step j.bound D.scale) (sym value_is) (leaf_reaches I j.step j.bound y D old new u.items put.0 drawn here.1));
    }

pub walk_lined-walk_split-requires : goal.walk_lined-walk_split-requires
walk_lined-walk_split-requires g t c κs within =
    let j = c.args.judge.now in
    let I = j.instance.now in
    let y = c.args.node.now in
    let D = c.args.duals.now in
    let old = c.args.form.now in
    let line = c.args.walk.now.cursor.line.items in
    let m = c.free-m.result in
    let count = free_is I D y old c.requires.placement c.requires.form in
    let same : m ≡ free_count y = c.free-m.ensures.value ∙ count in
    let new = c.draw-in-Split.new.form in
    let s = c.in-Split.split in
    let said : IsNodeLine m c.deref.result.now (SplitsAt s) = subst (IsNodeLine m c.deref.result.now) c.in-Split.is c.in_ok-line.ensures.found in
    let whole = free_whole y c.requires.placement in
    let long = said.marks in
    let spent : 7 * (y.size - length y.facilities) + 4 ≡ t = c.decreases in
    let smaller : 7 * (y.size - length y.facilities) + 3 < t = omega arith in (
      smaller,
      (
        within.0,
        (
          within.1,
          (
            c.requires.size,
            (
              c.requires.placement,
              (c.requires.judge, (c.requires.duals_size, (c.requires.in_scale, (c.in_ok-draw-in-Split.ensures.form I D y c.requires.placement c.requires.form, (omega (arith, long, same, whole), said.marked))))),
            ),
          ),
        ),
      ),
    )

pub walk_lined-returns-clause-passed : goal.walk_lined-returns-clause-passed
walk_lined-returns-clause-passed g t c =
    let j = c.args.judge.now in
    let I = j.instance.now in
    let y = c.args.node.now in
    let D = c.args.duals.now in
    let old = c.args.form.now in
    let line = c.args.walk.now.cursor.line.items in
    let m = c.free-m.result in
    let count = free_is I D y old c.requires.placement c.requires.form in
    let same : m ≡ free_count y = c.free-m.ensures.value ∙ count in
    let new = c.draw-in-Split.new.form in
    let s = c.in-Split.split in
    let said : IsNodeLine m c.deref.result.now (SplitsAt s) = subst (IsNodeLine m c.deref.result.now) c.in-Split.is c.in_ok-line.ensures.found in
    let line_is = ap (λ l. l ++ 10 ∷ []) (sym c.deref.ensures.value) ∙ said.is in
    Leaves-weaker _ _ _ c.walk_split.result (λ rest h.
    lined_split Any (λ _. Any) y line s.side s.number s.marks.items s.u.items _ rest c.requires.placement (omega (arith, said.number)) (said.marks ∙ same) said.u.limited line_is (λ own ts at p. tt) h) c.walk_split.ensures.passed

pub walk_lined-returns-clause-walked : goal.walk_lined-returns-clause-walked
walk_lined-returns-clause-walked g t c =
    let j = c.args.judge.now in
    let I = j.instance.now in
    let y = c.args.node.now in
    let D = c.args.duals.now in
    let old = c.args.form.now in
    let line = c.args.walk.now.cursor.line.items in
    let m = c.free-m.result in
    let count = free_is I D y old c.requires.placement c.requires.form in
    let same : m ≡ free_count y = c.free-m.ensures.value ∙ count in
    let new = c.draw-in-Split.new.form in
    let s = c.in-Split.split in
    let said : IsNodeLine m c.deref.result.now (SplitsAt s) = subst (IsNodeLine m c.deref.result.now) c.in-Split.is c.in_ok-line.ensures.found in
    let line_is = ap (λ l. l ++ 10 ∷ []) (sym c.deref.ensures.value) ∙ said.is in
    let put = c.in_ok-draw-in-Split.ensures.line in
    let drawn : IsLine old new s.u.items put.0 = subst (λ (l : List ℤ). IsLine old new l put.0) c.deref-in-Split.ensures.value put.1 in
    judged c.walk_split.result _ _ _ _ (λ w.
    WalksLined-split I j.step j.bound j.cost y D old new m s.u.items put.0 s.side s.number s.marks.items line _ _ _ _ same (free_whole y c.requires.placement) said.u said.marks line_is drawn w)
    (λ e f. Finds-stronger _ _ _ _ e (λ k. SkimsLined-split y m s.u.items s.side s.number s.marks.items line _ _ same said.u said.marks line_is k)
    (λ rest h.
    lined_split (Valid I j.step j.bound y (Some (under D old))) (λ own. AllValid I j.step j.bound y (under D new) s.side own 0) y line s.side s.number s.marks.items s.u.items _ rest c.requires.placement (omega (arith, said.number)) (said.marks ∙ same) said.u.limited line_is
    (λ own ts at p. split_valid I j.step j.bound y D old new s.side s.number s.u.items put.0 own ts c.requires.placement count drawn at p) h) f) c.walk_split.ensures.walked

pub walk_split-returns-in_err-opened-clause-passed : goal.walk_split-returns-in_err-opened-clause-passed
walk_split-returns-in_err-opened-clause-passed g t c =
    let p = err_from_is_err_and c.from_residual.result c.from_residual.ensures.1 in
    let refused = c.in_err-opened.ensures {u = tt} in
    rw (p.1, p.2) (refused.class, λ rest h. refused.refused h.own h.place)

pub walk_split-returns-clause-passed : goal.walk_split-returns-clause-passed
walk_split-returns-clause-passed g t c =
    let j = c.args.judge.now in
    let y = c.args.node.now in
    let s = c.args.split.now in
    let now = under c.args.duals.now c.args.form.now in
    let opened = c.in_ok-opened.ensures in
    let own = c.in_ok-opened.opened.own in
    Leaves-weaker _ _ _ c.walk_children.result (λ rest h.
    subst (λ (l : List ℕ). BeginsChildren y s.side own 0 Any l c.args.reader.now.left rest) (sym c.deref-3.ensures.value)
    (split_children (λ _. Any) y s.side s.number own s.marks.items c.args.reader.now.left rest c.requires.placement opened.place h)) c.walk_children.ensures.passed

pub walk_split-returns-clause-walked : goal.walk_split-returns-clause-walked
walk_split-returns-clause-walked g t c =
    let j = c.args.judge.now in
    let y = c.args.node.now in
    let s = c.args.split.now in
    let now = under c.args.duals.now c.args.form.now in
    let opened = c.in_ok-opened.ensures in
    let own = c.in_ok-opened.opened.own in
    let a = c.args.reader.now in
    let marks_are : c.deref-3.result.now ≡ s.marks.items = c.deref-3.ensures.value in
    judged c.walk_children.result _ _ _ _ (λ w. record { own = own; place = opened.place; walked = subst (λ (l : List ℕ). WalksChildren j.instance.now j.step j.bound j.cost y now s.side own 0 l a c.walk_children.new.reader c.args.walk.now.leaves.items c.walk_children.new.walk.leaves.items) marks_are w })
    (λ e f. Finds-stronger _ _ _ _ e (λ k. record { own = own; place = opened.place; skimmed = subst (λ (l : List ℕ). SkimsChildren y s.side own 0 l a c.walk_children.new.reader) marks_are k })
    (λ rest h.
    subst (λ (l : List ℕ). HasChildren j.instance.now j.step j.bound y now s.side own 0 l a.left rest) (sym marks_are)
    (split_children (λ k. AllValid j.instance.now j.step j.bound y now s.side k 0) y s.side s.number own s.marks.items a.left rest c.requires.placement opened.place h)) f) c.walk_children.ensures.walked

pub walk_children-loop-child-init : goal.walk_children-loop-child-init
walk_children-loop-child-init g t c =
    let j = c.args.judge.now in
    let p = c.args.parent.now in
    let y = p.split.node.now in
    let now = under p.duals.now p.form.now in (
      WalksChildren-none j.instance.now j.step j.bound j.cost y now p.split.side p.split.own 0 _ _,
      IsPassed-none y p.split.side p.split.own 0 (λ _. Any) 0 c.args.marks.now _ refl,
      IsPassed-none y p.split.side p.split.own 0 (AllValid j.instance.now j.step j.bound y now p.split.side p.split.own) 0 c.args.marks.now _ refl,
    )

pub walk_children-loop-child-preserved : goal.walk_children-loop-child-preserved
walk_children-loop-child-preserved g t c =
    let j = c.args.judge.now in
    let p = c.args.parent.now in
    let y = p.split.node.now in
    let now = under p.duals.now p.form.now in
    let sound = rw c.in_default.is at c.in_ok-judged.ensures.walked in
    let inside = c.loop-child-test.true in (
      WalksChildren-next j.instance.now j.step j.bound j.cost y now p.split.side p.split.own c.loop-child.child _ c.args.marks.now _ _ _ _ _ _ inside refl c.loop-child.invariant.0 sound.0,
      IsPassed-more y p.split.side p.split.own 0 (λ _. Any) c.loop-child.child (c.loop-child.child + 1) c.loop-child.child _ c.args.marks.now _ _ _ refl inside refl c.loop-child.invariant.1 c.in_ok-judged.ensures.passed,
      IsPassed-more y p.split.side p.split.own 0 (AllValid j.instance.now j.step j.bound y now p.split.side p.split.own) c.loop-child.child (c.loop-child.child + 1) c.loop-child.child _ c.args.marks.now _ _ _ refl inside refl c.loop-child.invariant.2 sound.1,
    )

pub walk_children-returns-in_err-judged-clause-passed : goal.walk_children-returns-in_err-judged-clause-passed
walk_children-returns-in_err-judged-clause-passed g t c =
    let e = err_from_is_err_and c.from_residual.result c.from_residual.ensures.1 in
    let j = c.args.judge.now in
    let p = c.args.parent.now in
    let y = p.split.node.now in
    let now = under p.duals.now p.form.now in
    let refused = (c.in_err-judged.ensures {u = tt}).passed in
    rw (e.1, e.2) (refused.0, λ rest h. refused.1 _ rest (passed_next y p.split.side p.split.own 0 (λ _. Any) c.loop-child.child c.loop-child.child _ c.args.marks.now _ _ rest c.loop-child-test.true refl c.loop-child.invariant.1 h))

pub walk_children-returns-in_err-skim_children-clause-passed : goal.walk_children-returns-in_err-skim_children-clause-passed
walk_children-returns-in_err-skim_children-clause-passed g t c =
    let e = err_from_is_err_and c.from_residual-in_err-skim_children.result c.from_residual-in_err-skim_children.ensures.1 in
    let j = c.args.judge.now in
    let p = c.args.parent.now in
    let y = p.split.node.now in
    let now = under p.duals.now p.form.now in
    let child = c.loop-child.child in
    let marked = c.args.marks.now in
    let others = take (length marked - (child + 1)) (drop (child + 1) marked) in
    let others_is = others_are marked others (child + 1) refl in
    let passed = IsPassed-more y p.split.side p.split.own 0 (λ _. Any) child (child + 1) child _ marked _ _ _ refl c.loop-child-test.true refl c.loop-child.invariant.1 c.in_ok-judged.ensures.passed in
    let refused = (c.in_err-skim_children.ensures {u = tt}).passed in
    rw (e.1, e.2) (refused.0, λ rest h. refused.1 rest (subst (λ (l : List ℕ). BeginsChildren y p.split.side p.split.own (child + 1) Any l c.walk_marked.new.reader.left rest) (sym others_is) (passed.each rest h)))

pub walk_children-returns-in-Some-clause-passed : goal.walk_children-returns-in-Some-clause-passed
walk_children-returns-in-Some-clause-passed g t c =
    let j = c.args.judge.now in
    let p = c.args.parent.now in
    let y = p.split.node.now in
    let now = under p.duals.now p.form.now in
    let child = c.loop-child.child in
    let marked = c.args.marks.now in
    let others = take (length marked - (child + 1)) (drop (child + 1) marked) in
    let others_is = others_are marked others (child + 1) refl in
    let passed = IsPassed-more y p.split.side p.split.own 0 (λ _. Any) child (child + 1) child _ marked _ _ _ refl c.loop-child-test.true refl c.loop-child.invariant.1 c.in_ok-judged.ensures.passed in
    λ rest h. c.in_ok-skim_children.ensures.passed rest (subst (λ (l : List ℕ). BeginsChildren y p.split.side p.split.own (child + 1) Any l c.walk_marked.new.reader.left rest) (sym others_is) (passed.each rest h))

pub walk_children-returns-in-Some-clause-walked : goal.walk_children-returns-in-Some-clause-walked
walk_children-returns-in-Some-clause-walked g t c =
    let j = c.args.judge.now in
    let p = c.args.parent.now in
    let y = p.split.node.now in
    let now = under p.duals.now p.form.now in
    let child = c.loop-child.child in
    let marked = c.args.marks.now in
    let others = take (length marked - (child + 1)) (drop (child + 1) marked) in
    let others_is = others_are marked others (child + 1) refl in
    let found = rw c.in-Some.is at c.in_ok-judged.ensures.walked in
    child_found j.instance.now j.step j.bound y now p.split.side p.split.own child _ marked others _ _ _ _ _ c.loop-child-test.true refl others_is c.loop-child.invariant.0.skimmed c.loop-child.invariant.2 found c.in_ok-skim_children.ensures.skimmed

pub walk_children-returns-clause-passed : goal.walk_children-returns-clause-passed
walk_children-returns-clause-passed g t c =
    let j = c.args.judge.now in
    let p = c.args.parent.now in
    let y = p.split.node.now in
    let now = under p.duals.now p.form.now in
    λ rest h. IsPassed-all y p.split.side p.split.own 0 (λ _. Any) c.loop-child.child c.loop-child.child c.args.marks.now _ _ rest c.loop-child-test.false c.loop-child.invariant.1 h

pub walk_children-returns-clause-walked : goal.walk_children-returns-clause-walked
walk_children-returns-clause-walked g t c =
    let j = c.args.judge.now in
    let p = c.args.parent.now in
    let y = p.split.node.now in
    let now = under p.duals.now p.form.now in
    subst (λ (l : List ℕ). WalksChildren j.instance.now j.step j.bound j.cost y now p.split.side p.split.own 0 l c.args.reader.now c.loop-child.reader c.args.walk.now.leaves.items c.loop-child.walk.leaves.items) (all_marks c.args.marks.now c.loop-child.child c.loop-child-test.false) c.loop-child.invariant.0

pub walk_marked-returns-then-mark-eq43-clause-passed : goal.walk_marked-returns-then-mark-eq43-clause-passed
walk_marked-returns-then-mark-eq43-clause-passed g t c =
    let j = c.args.judge.now in
    let p = c.args.parent.now in
    let y = p.split.node.now in
    let now = under p.duals.now p.form.now in
    subst (λ (mark : ℕ). LeavesOthers y p.split.side p.split.own c.args.child mark c.args.reader.now.left c.walk_child.new.reader.left c.walk_child.result) (sym c.if-mark-eq43.true) c.walk_child.ensures.passed

pub walk_marked-returns-then-mark-eq43-clause-walked : goal.walk_marked-returns-then-mark-eq43-clause-walked
walk_marked-returns-then-mark-eq43-clause-walked g t c =
    let j = c.args.judge.now in
    let p = c.args.parent.now in
    let y = p.split.node.now in
    let now = under p.duals.now p.form.now in
    subst (λ (mark : ℕ). JudgesChild j.instance.now j.step j.bound j.cost y now p.split.side p.split.own c.args.child mark c.args.reader.now c.walk_child.new.reader c.args.walk.now.leaves.items c.walk_child.new.walk.leaves.items c.walk_child.result) (sym c.if-mark-eq43.true) c.walk_child.ensures.walked

pub walk_marked-returns-then-closed-clause-passed : goal.walk_marked-returns-then-closed-clause-passed
walk_marked-returns-then-closed-clause-passed g t c =
    let j = c.args.judge.now in
    let p = c.args.parent.now in
    let y = p.split.node.now in
    let now = under p.duals.now p.form.now in
    let is : c.args.mark ≡ 46 = elim c.requires.mark [ inl here ↦ here | inr other ↦ absurd (c.if-mark-eq43.false other) ] in
    λ more rest h.
    let here = subst (λ (mark : ℕ). BeginsChildren y p.split.side p.split.own c.args.child Any (mark ∷ more) c.args.reader.now.left rest) is h in
    children_with _ Any y p.split.side p.split.own (c.args.child + 1) more c.args.reader.now.left rest (λ ts any. tt) (closed_child y p.split.side p.split.own Any c.args.child more c.args.reader.now.left rest here)

pub walk_marked-returns-else-closed-clause-passed : goal.walk_marked-returns-else-closed-clause-passed
walk_marked-returns-else-closed-clause-passed g t c =
    let j = c.args.judge.now in
    let p = c.args.parent.now in
    let y = p.split.node.now in
    let now = under p.duals.now p.form.now in
    let is : c.args.mark ≡ 46 = elim c.requires.mark [ inl here ↦ here | inr other ↦ absurd (c.if-mark-eq43.false other) ] in
    λ more rest h.
    let here = subst (λ (mark : ℕ). BeginsChildren y p.split.side p.split.own c.args.child Any (mark ∷ more) c.args.reader.now.left rest) is h in
    children_with _ Any y p.split.side p.split.own (c.args.child + 1) more c.args.reader.now.left rest (λ ts any. tt) (closed_child y p.split.side p.split.own Any c.args.child more c.args.reader.now.left rest here)

pub walk_marked-returns-then-closed-clause-walked : goal.walk_marked-returns-then-closed-clause-walked
walk_marked-returns-then-closed-clause-walked g t c =
    let j = c.args.judge.now in
    let p = c.args.parent.now in
    let y = p.split.node.now in
    let now = under p.duals.now p.form.now in
    let is : c.args.mark ≡ 46 = elim c.requires.mark [ inl here ↦ here | inr other ↦ absurd (c.if-mark-eq43.false other) ] in
    let pushed = rw c.if-closed.true at c.in_ok-closed.ensures in
    let a = c.args.reader.now in
    subst (λ (mark : ℕ). WalksChildren j.instance.now j.step j.bound j.cost y now p.split.side p.split.own c.args.child (mark ∷ []) a a c.args.walk.now.leaves.items c.check_closed.new.leaves.items × PassesOthers j.instance.now j.step j.bound y now p.split.side p.split.own c.args.child mark a.left a.left) (sym is)
    (closed_sound j.instance.now j.step j.bound j.cost y now p.split.side p.split.own c.args.child a _ _ pushed)

pub walk_marked-returns-else-closed-clause-walked : goal.walk_marked-returns-else-closed-clause-walked
walk_marked-returns-else-closed-clause-walked g t c =
    let j = c.args.judge.now in
    let p = c.args.parent.now in
    let y = p.split.node.now in
    let now = under p.duals.now p.form.now in
    let is : c.args.mark ≡ 46 = elim c.requires.mark [ inl here ↦ here | inr other ↦ absurd (c.if-mark-eq43.false other) ] in
    let low = rw c.if-closed.false at c.in_ok-closed.ensures in
    let a = c.args.reader.now in
    subst (λ (mark : ℕ). Finds (SkimsChildren y p.split.side p.split.own c.args.child (mark ∷ []) a a) (HasOthers j.instance.now j.step j.bound y now p.split.side p.split.own c.args.child mark a.left) (CutTooLow c.args.parent.now.line)) (sym is)
    (closed_found j.instance.now j.step j.bound j.cost y now p.split.side p.split.own c.args.child a (CutTooLow c.args.parent.now.line) refl low)

pub walk_child-child_node-requires-clause-row : goal.walk_child-child_node-requires-clause-row
walk_child-child_node-requires-clause-row g t c = omega (arith, c.cell-h.ensures.row, (cell_listed _ _ _ _ _ _ _ _ c.args.child _ c.requires.parent c.requires.child).row)

pub walk_child-child_node-requires-clause-column : goal.walk_child-child_node-requires-clause-column
walk_child-child_node-requires-clause-column g t c = omega (arith, c.cell-h.ensures.column, (cell_listed _ _ _ _ _ _ _ _ c.args.child _ c.requires.parent c.requires.child).column)

pub walk_child-child-requires-clause-row : goal.walk_child-child-requires-clause-row
walk_child-child-requires-clause-row g t c = omega (arith, c.cell-h.ensures.row, (cell_inside _ _ _ _ _ _ _ _ c.args.child _ c.requires.parent c.requires.child).row)

pub walk_child-child-requires-clause-column : goal.walk_child-child-requires-clause-column
walk_child-child-requires-clause-column g t c = omega (arith, c.cell-h.ensures.column, (cell_inside _ _ _ _ _ _ _ _ c.args.child _ c.requires.parent c.requires.child).column)

pub walk_child-walk_below-requires : goal.walk_child-walk_below-requires
walk_child-walk_below-requires g t c κs within =
    let p = c.args.parent.now.split.node.now in
    let node = c.in_ok-node.node in
    let is = c.in_ok-node.ensures in
    let size : node.size ≡ p.size = ap (λ (x : Placement). x.size) is in
    let placed : length node.facilities ≡ length p.facilities + 1 =
    ap (λ (x : Placement). length x.facilities) is ∙ length-append p.facilities (get_or (free_facilities p) c.cell-h.result.0 0 ∷ []) in
    let whole : 7 * (p.size - length p.facilities) ≡ t = c.decreases in
    let few = c.requires.child in
    let smaller : 7 * (node.size - length node.facilities) + 6 < t = omega arith in
    let cell_is = IsCellOf-child c.args.parent.now.split.side p c.args.parent.now.split.own c.args.child c.requires.parent.placement c.requires.parent.own_in c.requires.child in
    let q = c.args.parent.now in
    let h = c.cell-h.result.0 in
    let k = c.cell-h.result.1 in
    let cell : IsCellOf p h k = record { row = omega (arith, c.cell-h.ensures.row, cell_is.row); column = omega (arith, c.cell-h.ensures.column, cell_is.column) } in
    let parent = c.requires.parent in (
      smaller,
      (
        within.0,
        (
          within.1,
          (
            parent.size ∙ sym size,
            (
              subst IsPlacement (sym is) (IsPlacement-cell p h k parent.placement cell),
              (
                c.requires.judge,
                (
                  parent.duals_size ∙ sym size,
                  (
                    parent.in_scale,
                    (
                      subst (λ (x : Placement). IsFormOf c.args.judge.now.instance.now q.duals.now x c.child.new.child) (sym is) (c.in_ok-child.ensures.form p parent.placement parent.form),
                      c.in_ok-child.ensures.child.is_lined,
                    ),
                  ),
                ),
              ),
            ),
          ),
        ),
      ),
    )

pub walk_child-returns-in_err-advance-clause-passed : goal.walk_child-returns-in_err-advance-clause-passed
walk_child-returns-in_err-advance-clause-passed g t c =
    let e = err_from_is_err_and c.from_residual.result c.from_residual.ensures.1 in
    let p = c.args.parent.now in
    let parent = c.requires.parent in
    let refused = c.in_err-advance.ensures {u = tt} in
    rw (e.1, e.2) (
      refused.class,
      λ more rest h.
          let begins = child_begins p.split.node.now p.split.side p.split.own Any c.args.child more _ rest parent.placement parent.own_in c.requires.child h in
          refused.refused begins.0 begins.1 begins.2,
    )

pub walk_child-returns-then-begins_image-clause-passed : goal.walk_child-returns-then-begins_image-clause-passed
walk_child-returns-then-begins_image-clause-passed g t c =
    let j = c.args.judge.now in
    let I = j.instance.now in
    let p = c.args.parent.now in
    let y = p.split.node.now in
    let D = p.duals.now in
    let now = under D p.form.now in
    let parent = c.requires.parent in
    let line = c.advance.new.cursor.line.items in
    let read = c.in_ok-advance.ensures in
    let low = subst (λ (l : List ℕ). get_or l 0 0 ≤ 109) c.deref.ensures.value (rw c.if-begins_image.true at c.begins_image.ensures) in
    LeavesOthers-image y p.split.side p.split.own c.args.child line c.args.reader.now.left _ c.image_fault.result parent.placement parent.own_in c.requires.child read.read.consumed read.whole low c.image_fault.ensures.refused c.image_fault.ensures.class

pub walk_child-returns-then-begins_image-clause-walked : goal.walk_child-returns-then-begins_image-clause-walked
walk_child-returns-then-begins_image-clause-walked g t c =
    let j = c.args.judge.now in
    let I = j.instance.now in
    let p = c.args.parent.now in
    let y = p.split.node.now in
    let D = p.duals.now in
    let now = under D p.form.now in
    let parent = c.requires.parent in
    let line = c.advance.new.cursor.line.items in
    let read = c.in_ok-advance.ensures in
    let low = subst (λ (l : List ℕ). get_or l 0 0 ≤ 109) c.deref.ensures.value (rw c.if-begins_image.true at c.begins_image.ensures) in
    image_judged I j.step j.bound j.cost y now p.split.side p.split.own c.args.child line c.args.reader.now _ _ c.image_fault.result parent.placement parent.own_in c.requires.child read.read read.whole low c.image_fault.ensures.judged

pub walk_child-returns-clause-passed : goal.walk_child-returns-clause-passed
walk_child-returns-clause-passed g t c =
    let j = c.args.judge.now in
    let I = j.instance.now in
    let p = c.args.parent.now in
    let y = p.split.node.now in
    let D = p.duals.now in
    let now = under D p.form.now in
    let parent = c.requires.parent in
    let line = c.advance.new.cursor.line.items in
    let read = c.in_ok-advance.ensures in
    let R = c.child.new.child in
    let row = row_of p.split.side p.split.own c.args.child in
    let column = column_of p.split.side p.split.own c.args.child in
    let a = c.args.reader.now.left in
    let b = c.advance.new.reader.left in
    let d = c.walk_below.new.reader.left in
    let node_is : c.in_ok-node.node ≡ child_on p.split.side y p.split.own c.args.child = c.in_ok-node.ensures ∙ ap₂ (child_at y) c.cell-h.ensures.row c.cell-h.ensures.column in
    let other = subst (λ (l : List ℕ). (get_or l 0 0 ≢ 109) × (get_or l 0 0 ≢ 103)) c.deref.ensures.value (rw c.if-begins_image.false at c.begins_image.ensures) in
    let left = subst (λ (x : Placement). Leaves (BeginsTree x true Any line b) d c.walk_below.result) node_is c.walk_below.ensures.passed in
    LeavesOthers-tree y p.split.side p.split.own c.args.child line a b d c.walk_below.result parent.placement parent.own_in c.requires.child read.read.consumed read.whole other.0 other.1 left

pub walk_child-returns-clause-walked : goal.walk_child-returns-clause-walked
walk_child-returns-clause-walked g t c =
    let j = c.args.judge.now in
    let I = j.instance.now in
    let p = c.args.parent.now in
    let y = p.split.node.now in
    let D = p.duals.now in
    let now = under D p.form.now in
    let parent = c.requires.parent in
    let line = c.advance.new.cursor.line.items in
    let read = c.in_ok-advance.ensures in
    let R = c.child.new.child in
    let row = row_of p.split.side p.split.own c.args.child in
    let column = column_of p.split.side p.split.own c.args.child in
    let a = c.args.reader.now in
    let b = c.advance.new.reader in
    let d = c.walk_below.new.reader in
    let node_is : c.in_ok-node.node ≡ child_on p.split.side y p.split.own c.args.child = c.in_ok-node.ensures ∙ ap₂ (child_at y) c.cell-h.ensures.row c.cell-h.ensures.column in
    let other = subst (λ (l : List ℕ). (get_or l 0 0 ≢ 109) × (get_or l 0 0 ≢ 103)) c.deref.ensures.value (rw c.if-begins_image.false at c.begins_image.ensures) in
    let left = subst (λ (x : Placement). Leaves (BeginsTree x true Any line b.left) d.left c.walk_below.result) node_is c.walk_below.ensures.passed in
    let before = c.args.walk.now.leaves.items in
    let after = c.walk_below.new.walk.leaves.items in
    let child : IsChild I D p.form.now row column R =
    subst (λ (k : ℕ). IsChild I D p.form.now k column R) c.cell-h.ensures.row (subst (λ (k : ℕ). IsChild I D p.form.now c.cell-h.result.0 k R) c.cell-h.ensures.column c.in_ok-child.ensures.child) in
    let walked = subst (λ (x : Placement). Judges (WalksTree I j.step j.bound j.cost x (Some (under D R)) line b d before after) (Finds (SkimsTree x true line b d) (HasTree I j.step j.bound x (Some (under D R)) line b.left)) c.walk_below.result) node_is c.walk_below.ensures.walked in
    tree_judged I j.step j.bound j.cost y now p.split.side p.split.own c.args.child R line a b d before after c.walk_below.result parent.placement parent.own_in c.requires.child (free_is I D y p.form.now parent.placement parent.form) read.read read.whole other.0 other.1 child left walked
