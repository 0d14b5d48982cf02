use Rattle.std.proofs.Common.{◌≡◌, ◌≢◌, ℕ, ◌+◌, ◌-◌, ◌*◌, ◌<◌, ◌≤◌, ◌++◌, ◌∷◌, [], List, length, get_or, pos, refl, sym, ◌∙◌, ap, ap₂, subst, inl, inr, arith, length-append}
use Rattle.std.specs.Prelude.{codes, true, IfErr}
use Rattle.std.proofs.lemmas.Result.{err_from_is_err_and}
use Rattle.qap_cost.specs.Placement.{Placement, IsPlacement, free_facilities}
use Rattle.qap_lines.proofs.NumberLists.{AllLimited-one}
use Rattle.qap_lines.specs.Number.{IsNamed}
use Rattle.pair_duals.specs.Seats.{child_at}
use Rattle.qap_proof.specs.Shape.{free_count}
use Rattle.proof_tree.proofs.Splits.{IsCellOf, IsCellOf-child, IsPlacement-cell}
use Rattle.proof_tree.specs.Shape.{ArePairRows, IsImageOf}
use Rattle.proof_tree.specs.Text.{tree_text}
use Rattle.proof_tree.specs.Tree.{child_on}
use Rattle.proof_check.specs.Completeness.{Any, BeginsChildren, BeginsTree, BeginsWithRows, Leaves, LeavesOthers, RefusesImage}
use Rattle.proof_check.specs.Lines.{IsNodeLine}
use Rattle.proof_check.specs.Rows.{lists_of, rows_of}
use Rattle.proof_check.specs.Walk.{SkimsChildren, SkimsTree}
use Rattle.proof_check.specs.declared.node_line.NodeLine.TheVariants.{Leaf, Split as SplitsAt}
use Rattle.proof_check.proofs.Closing.{free_whole, on_ok}
use Rattle.proof_check.proofs.Lines.{named-is}
use Rattle.proof_check.proofs.Passing.{BeginsLined-first, BeginsOwn-first, Leaves-weaker, own_lined, own_next, own_rows, own_rows_are, own_scale, own_shape}
use Rattle.proof_check.proofs.PassingChildren.{IsPassed-all, IsPassed-more, IsPassed-none, LeavesOthers-image, LeavesOthers-tree, child_begins, children_with, closed_child, passed_next}
use Rattle.proof_check.proofs.PassingLines.{lined_leaf, lined_refused, lined_split, split_children}
use Rattle.proof_check.proofs.ReadLines.{starts_first, starts_otherwise}
use Rattle.proof_check.proofs.Splits.{split_cell}
use Rattle.proof_check.proofs.TreeLines.{bare}
use Rattle.proof_check.proofs.TreeWalks.{SkimsChildren-closed, SkimsChildren-grown, SkimsChildren-image, SkimsChildren-next, SkimsChildren-none, SkimsLined-leaf, SkimsLined-split, SkimsTree-own, all_marks}
use Rattle.proof_check.proofs.skimming.+skimming.Goals as goal

pub skim_below-returns-then-starts_with-clause-passed : goal.skim_below-returns-then-starts_with-clause-passed
skim_below-returns-then-starts_with-clause-passed g t c =
    let y = c.args.node.now in
    let line = c.args.cursor.now.line.items in
    let first = starts_first c.deref.result.now line 112 c.starts_with.result c.deref.ensures.value c.if-starts_with.true c.starts_with.ensures.value in
    Leaves-weaker _ _ _ c.skim_own.result (λ rest h. BeginsOwn-first Any y true line _ rest c.requires.placement first h) c.skim_own.ensures.passed

pub skim_below-returns-then-starts_with-clause-skimmed : goal.skim_below-returns-then-starts_with-clause-skimmed
skim_below-returns-then-starts_with-clause-skimmed g t c = c.skim_own.ensures.skimmed true

pub skim_below-returns-else-starts_with-clause-passed : goal.skim_below-returns-else-starts_with-clause-passed
skim_below-returns-else-starts_with-clause-passed g t c =
    let y = c.args.node.now in
    let line = c.args.cursor.now.line.items in
    let other = starts_otherwise c.deref.result.now line 112 c.starts_with.result (omega arith) c.deref.ensures.value c.if-starts_with.false c.starts_with.ensures.value in
    Leaves-weaker _ _ _ c.skim_lined.result (λ rest h. BeginsLined-first Any y line _ rest other h) c.skim_lined.ensures.passed

pub skim_below-returns-else-starts_with-clause-skimmed : goal.skim_below-returns-else-starts_with-clause-skimmed
skim_below-returns-else-starts_with-clause-skimmed g t c = on_ok c.skim_lined.result _ _ (λ s. s.skimmed) c.skim_lined.ensures.skimmed

pub skim_own-returns-in_default-clause-passed : goal.skim_own-returns-in_default-clause-passed
skim_own-returns-in_default-clause-passed g t c =
    let y = c.args.node.now in
    let line = c.args.cursor.now.line.items in (
      inl refl,
      λ rest h.
          let rows = own_shape Any y line _ rest h in
          absurd (c.in_default.ensures h.rows.scale rows.positive rows.scale
          (subst (λ (l : List ℕ). IsNamed (codes "p") l (pos h.rows.scale ∷ [])) (sym c.deref.ensures.value) (own_scale Any y line _ rest h))),
    )

pub skim_own-returns-in_err-_rows-clause-passed : goal.skim_own-returns-in_err-_rows-clause-passed
skim_own-returns-in_err-_rows-clause-passed g t c =
    let p = err_from_is_err_and c.from_residual.result c.from_residual.ensures.1 in
    let y = c.args.node.now in
    let line = c.args.cursor.now.line.items in
    let m_is : c.size.result - c.depth.result ≡ free_count y = ap₂ (λ a b. a - b) c.size.ensures.value c.depth.ensures.value in
    let refused = c.in_err-_rows.ensures {u = tt} in
    rw (p.1, p.2) (
      refused.class,
      λ rest h.
          refused.passed h.rows.rows _ (subst (λ (m : ℕ). BeginsWithRows m h.rows.rows c.args.reader.now.left (tree_text (bare h.has.tree) ++ rest)) (sym m_is) (own_rows Any y line _ rest h)),
    )

pub skim_own-returns-in_err-advance-clause-passed : goal.skim_own-returns-in_err-advance-clause-passed
skim_own-returns-in_err-advance-clause-passed g t c =
    let p = err_from_is_err_and c.from_residual-in_err-advance.result c.from_residual-in_err-advance.ensures.1 in
    let y = c.args.node.now in
    let line = c.args.cursor.now.line.items in
    let m_is : c.size.result - c.depth.result ≡ free_count y = ap₂ (λ a b. a - b) c.size.ensures.value c.depth.ensures.value in
    let refused = c.in_err-advance.ensures {u = tt} in
    rw (p.1, p.2) (
      refused.class,
      λ rest h.
          let own = own_rows_are Any y line c.deref.result.now _ _ rest c.in-Some._scale (c.size.result - c.depth.result) (lists_of c.in_ok-_rows._rows.items) h c.deref.ensures.value c.in-Some.ensures.2 m_is c.in_ok-_rows.ensures.passed in
          refused.refused _ _ (own_next Any y line _ _ rest h c.requires.placement own.1),
    )

pub skim_own-returns-clause-passed : goal.skim_own-returns-clause-passed
skim_own-returns-clause-passed g t c =
    let y = c.args.node.now in
    let line = c.args.cursor.now.line.items in
    let m_is : c.size.result - c.depth.result ≡ free_count y = ap₂ (λ a b. a - b) c.size.ensures.value c.depth.ensures.value in
    let read = c.in_ok-advance.ensures in
    Leaves-weaker _ _ _ c.skim_lined.result (λ rest h.
    let own = own_rows_are Any y line c.deref.result.now _ _ rest c.in-Some._scale (c.size.result - c.depth.result) (lists_of c.in_ok-_rows._rows.items) h c.deref.ensures.value c.in-Some.ensures.2 m_is c.in_ok-_rows.ensures.passed in
    own_lined Any Any y line c.advance.new.cursor.line.items _ _ _ rest h c.requires.placement tt own.1 read.read.consumed read.whole) c.skim_lined.ensures.passed

pub skim_own-returns-clause-skimmed : goal.skim_own-returns-clause-skimmed
skim_own-returns-clause-skimmed g t c = λ above.
    let y = c.args.node.now in
    let line = c.args.cursor.now.line.items in
    let m_is : c.size.result - c.depth.result ≡ free_count y = ap₂ (λ a b. a - b) c.size.ensures.value c.depth.ensures.value in
    let scale = c.in-Some._scale in
    let P = rows_of scale (lists_of c.in_ok-_rows._rows.items) in
    let said = c.in-Some.ensures in
    let read = c.in_ok-_rows.ensures.read in
    let shape : ArePairRows (free_count y) P = subst (λ (m : ℕ). ArePairRows m P) m_is (record { positive = said.0; scale = said.1; count = read.count; each = read.each }) in
    let line_is = sym c.deref.ensures.value ∙ named-is (codes "p") c.deref.result.now (pos scale ∷ []) said.2 (AllLimited-one (pos scale) (omega (arith, said.1))) in
    on_ok c.skim_lined.result _ _ (λ s. SkimsTree-own y above P line c.advance.new.cursor.line.items _ _ _ _ line_is shape read.consumed c.in_ok-advance.ensures.read s) c.skim_lined.ensures.skimmed

pub skim_lined-returns-in_err-line-clause-passed : goal.skim_lined-returns-in_err-line-clause-passed
skim_lined-returns-in_err-line-clause-passed g t c =
    let p = err_from_is_err_and c.from_residual.result c.from_residual.ensures.1 in
    let y = c.args.node.now in
    let line = c.args.cursor.now.line.items in
    let m = c.size.result - c.depth.result in
    let same : c.size.result - c.depth.result ≡ free_count y = ap₂ (λ a b. a - b) c.size.ensures.value c.depth.ensures.value in
    let refused = c.in_err-line.ensures {u = tt} in
    rw (p.1, p.2) (
      refused.class,
      λ rest h.
          lined_refused Any y line c.deref.result.now m c.size-2.result _ _ rest c.requires.placement c.deref.ensures.value same c.size-2.ensures.value refused.refused h,
    )

pub skim_lined-returns-in-Leaf-clause-passed : goal.skim_lined-returns-in-Leaf-clause-passed
skim_lined-returns-in-Leaf-clause-passed g t c =
    let y = c.args.node.now in
    let line = c.args.cursor.now.line.items in
    let m = c.size.result - c.depth.result in
    let same : c.size.result - c.depth.result ≡ free_count y = ap₂ (λ a b. a - b) c.size.ensures.value c.depth.ensures.value in
    let u = c.in-Leaf._u in
    let said : IsNodeLine m c.deref.result.now (Leaf u) = subst (IsNodeLine m c.deref.result.now) c.in-Leaf.is c.in_ok-line.ensures.found in
    let line_is = sym c.deref.ensures.value ∙ said.1 in
    λ rest h. (lined_leaf Any y line u.items _ rest c.requires.placement said.0.limited line_is h).0

pub skim_lined-returns-in-Leaf-clause-skimmed : goal.skim_lined-returns-in-Leaf-clause-skimmed
skim_lined-returns-in-Leaf-clause-skimmed g t c =
    let y = c.args.node.now in
    let line = c.args.cursor.now.line.items in
    let m = c.size.result - c.depth.result in
    let same : c.size.result - c.depth.result ≡ free_count y = ap₂ (λ a b. a - b) c.size.ensures.value c.depth.ensures.value in
    let u = c.in-Leaf._u in
    let said : IsNodeLine m c.deref.result.now (Leaf u) = subst (IsNodeLine m c.deref.result.now) c.in-Leaf.is c.in_ok-line.ensures.found in
    let line_is = sym c.deref.ensures.value ∙ said.1 in
    SkimsLined-leaf y m u.items line _ same said.0 line_is

pub skim_lined-skim_split-requires : goal.skim_lined-skim_split-requires
skim_lined-skim_split-requires g t c κs within =
    let y = c.args.node.now in
    let line = c.args.cursor.now.line.items in
    let m = c.size.result - c.depth.result in
    let same : c.size.result - c.depth.result ≡ free_count y = ap₂ (λ a b. a - b) c.size.ensures.value c.depth.ensures.value in
    let s = c.in-Split.split in
    let said : IsNodeLine m c.deref.result.now (SplitsAt s) = subst (IsNodeLine m c.deref.result.now) c.in-Split.is c.in_ok-line.ensures.found in
    let line_is = ap (λ l. l ++ 10 ∷ []) (sym c.deref.ensures.value) ∙ said.is in
    let whole = free_whole y c.requires.placement in
    let long = said.marks in
    let spent : 7 * (y.size - length y.facilities) + 4 ≡ t = c.decreases in
    let smaller : 7 * (y.size - length y.facilities) + 3 < t = omega arith in
    (smaller, (within.0, (within.1, (c.requires.placement, (omega (arith, long, same, whole), said.marked)))))

pub skim_lined-returns-in-Split-clause-passed : goal.skim_lined-returns-in-Split-clause-passed
skim_lined-returns-in-Split-clause-passed g t c =
    let y = c.args.node.now in
    let line = c.args.cursor.now.line.items in
    let m = c.size.result - c.depth.result in
    let same : c.size.result - c.depth.result ≡ free_count y = ap₂ (λ a b. a - b) c.size.ensures.value c.depth.ensures.value in
    let s = c.in-Split.split in
    let said : IsNodeLine m c.deref.result.now (SplitsAt s) = subst (IsNodeLine m c.deref.result.now) c.in-Split.is c.in_ok-line.ensures.found in
    let line_is = ap (λ l. l ++ 10 ∷ []) (sym c.deref.ensures.value) ∙ said.is in
    Leaves-weaker _ _ _ c.skim_split.result (λ rest h.
    lined_split Any (λ _. Any) y line s.side s.number s.marks.items s.u.items _ rest c.requires.placement (omega (arith, said.number)) (said.marks ∙ same) said.u.limited line_is (λ own ts at p. tt) h) c.skim_split.ensures.passed

pub skim_lined-returns-in-Split-clause-skimmed : goal.skim_lined-returns-in-Split-clause-skimmed
skim_lined-returns-in-Split-clause-skimmed g t c =
    let y = c.args.node.now in
    let line = c.args.cursor.now.line.items in
    let m = c.size.result - c.depth.result in
    let same : c.size.result - c.depth.result ≡ free_count y = ap₂ (λ a b. a - b) c.size.ensures.value c.depth.ensures.value in
    let s = c.in-Split.split in
    let said : IsNodeLine m c.deref.result.now (SplitsAt s) = subst (IsNodeLine m c.deref.result.now) c.in-Split.is c.in_ok-line.ensures.found in
    let line_is = ap (λ l. l ++ 10 ∷ []) (sym c.deref.ensures.value) ∙ said.is in
    on_ok c.skim_split.result _ _ (λ k. SkimsLined-split y m s.u.items s.side s.number s.marks.items line _ _ same said.u said.marks line_is k) c.skim_split.ensures.skimmed

pub skim_split-returns-in_err-opened-clause-passed : goal.skim_split-returns-in_err-opened-clause-passed
skim_split-returns-in_err-opened-clause-passed g t c =
    let p = err_from_is_err_and c.from_residual.result c.from_residual.ensures.1 in
    let refused = c.in_err-opened.ensures {u = tt} in
    rw (p.1, p.2) (refused.class, λ rest h. refused.refused h.own h.place)

pub skim_split-returns-clause-passed : goal.skim_split-returns-clause-passed
skim_split-returns-clause-passed g t c =
    let y = c.args.node.now in
    let s = c.args.split.now in
    let opened = c.in_ok-opened.ensures in
    let own = c.in_ok-opened.opened.own in
    let a = c.args.reader.now.left in
    let marks_are = c.deref-3.ensures.value in
    Leaves-weaker _ _ _ c.skim_children.result (λ rest h.
    subst (λ (l : List ℕ). BeginsChildren y s.side own 0 Any l a rest) (sym marks_are) (split_children (λ _. Any) y s.side s.number own s.marks.items a rest c.requires.placement opened.place h)) c.skim_children.ensures.passed

pub skim_split-returns-clause-skimmed : goal.skim_split-returns-clause-skimmed
skim_split-returns-clause-skimmed g t c =
    let y = c.args.node.now in
    let s = c.args.split.now in
    let opened = c.in_ok-opened.ensures in
    let own = c.in_ok-opened.opened.own in
    let a = c.args.reader.now in
    let marks_are = c.deref-3.ensures.value in
    on_ok c.skim_children.result _ _ (λ k. record { own = own; place = opened.place; skimmed = subst (λ (l : List ℕ). SkimsChildren y s.side own 0 l a c.skim_children.new.reader) marks_are k }) c.skim_children.ensures.skimmed

pub skim_children-loop-place-init : goal.skim_children-loop-place-init
skim_children-loop-place-init g t c =
    let p = c.args.split.now in
    let y = p.node.now in
    let first = c.args.first in
    (SkimsChildren-none y p.side p.own first _, IsPassed-none y p.side p.own first (λ _. Any) (first + 0) c.args.marks.now _ (omega arith))

pub skim_children-loop-place-preserved : goal.skim_children-loop-place-preserved
skim_children-loop-place-preserved g t c =
    let p = c.args.split.now in
    let y = p.node.now in
    let first = c.args.first in
    let place = c.loop-place.place in
    let marked = c.args.marks.now in
    let inside = c.loop-place-test.true in
    (SkimsChildren-next y p.side p.own first (first + place) place _ marked _ _ _ refl inside refl c.loop-place.invariant.0 c.in_ok-skim_marked.ensures.skimmed, IsPassed-more y p.side p.own first (λ _. Any) (first + place) (first + (place + 1)) place _ marked _ _ _ (omega arith) inside refl c.loop-place.invariant.1 c.in_ok-skim_marked.ensures.passed)

pub skim_children-returns-in_err-skim_marked-clause-passed : goal.skim_children-returns-in_err-skim_marked-clause-passed
skim_children-returns-in_err-skim_marked-clause-passed g t c =
    let e = err_from_is_err_and c.from_residual.result c.from_residual.ensures.1 in
    let p = c.args.split.now in
    let y = p.node.now in
    let first = c.args.first in
    let place = c.loop-place.place in
    let marked = c.args.marks.now in
    let refused = (c.in_err-skim_marked.ensures {u = tt}).passed in
    rw (e.1, e.2) (refused.0, λ rest h. refused.1 _ rest (passed_next y p.side p.own first (λ _. Any) (first + place) place _ marked _ _ rest c.loop-place-test.true refl c.loop-place.invariant.1 h))

pub skim_children-returns-clause-passed : goal.skim_children-returns-clause-passed
skim_children-returns-clause-passed g t c =
    let p = c.args.split.now in
    let y = p.node.now in
    let first = c.args.first in
    let place = c.loop-place.place in
    let marked = c.args.marks.now in
    λ rest h. IsPassed-all y p.side p.own first (λ _. Any) (first + place) place marked _ _ rest c.loop-place-test.false c.loop-place.invariant.1 h

pub skim_children-returns-clause-skimmed : goal.skim_children-returns-clause-skimmed
skim_children-returns-clause-skimmed g t c =
    let p = c.args.split.now in
    let y = p.node.now in
    let first = c.args.first in
    let place = c.loop-place.place in
    let marked = c.args.marks.now in
    subst (λ (l : List ℕ). SkimsChildren y p.side p.own first l c.args.reader.now c.loop-place.reader) (all_marks marked place c.loop-place-test.false) c.loop-place.invariant.0

pub skim_marked-returns-then-mark-eq43-clause-passed : goal.skim_marked-returns-then-mark-eq43-clause-passed
skim_marked-returns-then-mark-eq43-clause-passed g t c =
    let p = c.args.split.now in
    let y = p.node.now in
    let a = c.args.reader.now.left in
    subst (λ (mark : ℕ). LeavesOthers y p.side p.own c.args.child mark a c.skim_child.new.reader.left c.skim_child.result) (sym c.if-mark-eq43.true) c.skim_child.ensures.passed

pub skim_marked-returns-then-mark-eq43-clause-skimmed : goal.skim_marked-returns-then-mark-eq43-clause-skimmed
skim_marked-returns-then-mark-eq43-clause-skimmed g t c =
    let p = c.args.split.now in
    let y = p.node.now in
    let a = c.args.reader.now in
    on_ok c.skim_child.result _ _ (λ k. subst (λ (mark : ℕ). SkimsChildren y p.side p.own c.args.child (mark ∷ []) a c.skim_child.new.reader) (sym c.if-mark-eq43.true) k) c.skim_child.ensures.skimmed

pub skim_marked-returns-else-mark-eq43-clause-passed : goal.skim_marked-returns-else-mark-eq43-clause-passed
skim_marked-returns-else-mark-eq43-clause-passed g t c =
    let p = c.args.split.now in
    let y = p.node.now in
    let a = c.args.reader.now.left in
    let is : c.args.mark ≡ 46 = elim c.requires.mark [ inl here ↦ here | inr other ↦ absurd (c.if-mark-eq43.false other) ] in
    λ more rest h.
    let here = subst (λ (mark : ℕ). BeginsChildren y p.side p.own c.args.child Any (mark ∷ more) a rest) is h in
    children_with _ Any y p.side p.own (c.args.child + 1) more a rest (λ ts any. tt) (closed_child y p.side p.own Any c.args.child more a rest here)

pub skim_marked-returns-else-mark-eq43-clause-skimmed : goal.skim_marked-returns-else-mark-eq43-clause-skimmed
skim_marked-returns-else-mark-eq43-clause-skimmed g t c =
    let p = c.args.split.now in
    let y = p.node.now in
    let a = c.args.reader.now in
    let is : c.args.mark ≡ 46 = elim c.requires.mark [ inl here ↦ here | inr other ↦ absurd (c.if-mark-eq43.false other) ] in
    subst (λ (mark : ℕ). SkimsChildren y p.side p.own c.args.child (mark ∷ []) a a) (sym is) (SkimsChildren-closed y p.side p.own c.args.child a)

pub skim_child-returns-in_err-advance-clause-passed : goal.skim_child-returns-in_err-advance-clause-passed
skim_child-returns-in_err-advance-clause-passed g t c =
    let e = err_from_is_err_and c.from_residual.result c.from_residual.ensures.1 in
    let p = c.args.split.now in
    let at = c.requires.split in
    let refused = c.in_err-advance.ensures {u = tt} in
    rw (e.1, e.2) (
      refused.class,
      λ more rest h.
          let begins = child_begins p.node.now p.side p.own Any c.args.child more _ rest at.placement at.own_in c.requires.child h in
          refused.refused begins.0 begins.1 begins.2,
    )

pub skim_child-returns-then-begins_image-clause-passed : goal.skim_child-returns-then-begins_image-clause-passed
skim_child-returns-then-begins_image-clause-passed g t c =
    let p = c.args.split.now in
    let y = p.node.now in
    let at = c.requires.split in
    let line = c.advance.new.cursor.line.items in
    let read = c.in_ok-advance.ensures in
    let a = c.args.reader.now.left in
    let low = subst (λ (l : List ℕ). get_or l 0 0 ≤ 109) c.deref.ensures.value (rw c.if-begins_image.true at c.begins_image.ensures) in
    let refused = subst (λ (k : ℕ). IfErr c.skim_image.result (RefusesImage k c.args.child line)) c.size.ensures.value
    (subst (λ (l : List ℕ). IfErr c.skim_image.result (RefusesImage c.size.result c.args.child l)) c.deref-then-begins_image.ensures.value c.skim_image.ensures.refused) in
    LeavesOthers-image y p.side p.own c.args.child line a _ c.skim_image.result at.placement at.own_in c.requires.child read.read.consumed read.whole low refused c.skim_image.ensures.class

pub skim_child-returns-then-begins_image-clause-skimmed : goal.skim_child-returns-then-begins_image-clause-skimmed
skim_child-returns-then-begins_image-clause-skimmed g t c =
    let p = c.args.split.now in
    let y = p.node.now in
    let at = c.requires.split in
    let line = c.advance.new.cursor.line.items in
    let read = c.in_ok-advance.ensures in
    let a = c.args.reader.now in
    on_ok c.skim_image.result _ _ (λ m. SkimsChildren-image y p.side p.own c.args.child line m.0 a _ read.read (ap (λ l. l ++ 10 ∷ []) (sym c.deref-then-begins_image.ensures.value) ∙ m.1) (subst (λ (k : ℕ). IsImageOf k c.args.child m.0) c.size.ensures.value m.2)) c.skim_image.ensures.stated

pub skim_child-child_node-requires-clause-row : goal.skim_child-child_node-requires-clause-row
skim_child-child_node-requires-clause-row g t c = omega (arith, c.cell-h.ensures.row, (split_cell _ _ _ _ _ c.args.child c.requires.split c.requires.child).row)

pub skim_child-child_node-requires-clause-column : goal.skim_child-child_node-requires-clause-column
skim_child-child_node-requires-clause-column g t c = omega (arith, c.cell-h.ensures.column, (split_cell _ _ _ _ _ c.args.child c.requires.split c.requires.child).column)

pub skim_child-skim_below-requires : goal.skim_child-skim_below-requires
skim_child-skim_below-requires g t c κs within =
    let p = c.args.split.now.node.now in
    let node = c.in_ok-node.node in
    let is = c.in_ok-node.ensures in
    let size : node.size ≡ p.size = ap (λ (x : Placement). x.size) is in
    let placed : length node.facilities ≡ length p.facilities + 1 =
    ap (λ (x : Placement). length x.facilities) is ∙ length-append p.facilities (get_or (free_facilities p) c.cell-h.result.0 0 ∷ []) in
    let whole : 7 * (p.size - length p.facilities) ≡ t = c.decreases in
    let few = c.requires.child in
    let smaller : 7 * (node.size - length node.facilities) + 6 < t = omega arith in
    let at = c.requires.split in
    let cell_is = IsCellOf-child c.args.split.now.side p c.args.split.now.own c.args.child at.placement at.own_in c.requires.child in
    let h = c.cell-h.result.0 in
    let k = c.cell-h.result.1 in
    let cell : IsCellOf p h k = record { row = omega (arith, c.cell-h.ensures.row, cell_is.row); column = omega (arith, c.cell-h.ensures.column, cell_is.column) } in
    (smaller, (within.0, (within.1, subst IsPlacement (sym is) (IsPlacement-cell p h k at.placement cell))))

pub skim_child-returns-clause-passed : goal.skim_child-returns-clause-passed
skim_child-returns-clause-passed g t c =
    let p = c.args.split.now in
    let y = p.node.now in
    let at = c.requires.split in
    let line = c.advance.new.cursor.line.items in
    let read = c.in_ok-advance.ensures in
    let a = c.args.reader.now.left in
    let b = c.advance.new.reader.left in
    let d = c.skim_below.new.reader.left in
    let node_is : c.in_ok-node.node ≡ child_on p.side y p.own c.args.child = c.in_ok-node.ensures ∙ ap₂ (child_at y) c.cell-h.ensures.row c.cell-h.ensures.column in
    let other = subst (λ (l : List ℕ). (get_or l 0 0 ≢ 109) × (get_or l 0 0 ≢ 103)) c.deref.ensures.value (rw c.if-begins_image.false at c.begins_image.ensures) in
    let left = subst (λ (x : Placement). Leaves (BeginsTree x true Any line b) d c.skim_below.result) node_is c.skim_below.ensures.passed in
    LeavesOthers-tree y p.side p.own c.args.child line a b d c.skim_below.result at.placement at.own_in c.requires.child read.read.consumed read.whole other.0 other.1 left

pub skim_child-returns-clause-skimmed : goal.skim_child-returns-clause-skimmed
skim_child-returns-clause-skimmed g t c =
    let p = c.args.split.now in
    let y = p.node.now in
    let at = c.requires.split in
    let line = c.advance.new.cursor.line.items in
    let read = c.in_ok-advance.ensures in
    let a = c.args.reader.now in
    let b = c.advance.new.reader in
    let d = c.skim_below.new.reader in
    let node_is : c.in_ok-node.node ≡ child_on p.side y p.own c.args.child = c.in_ok-node.ensures ∙ ap₂ (child_at y) c.cell-h.ensures.row c.cell-h.ensures.column in
    on_ok c.skim_below.result _ _ (λ s. SkimsChildren-grown y p.side p.own c.args.child line a b d read.read (subst (λ (x : Placement). SkimsTree x true line b d) node_is s)) c.skim_below.ensures.skimmed
