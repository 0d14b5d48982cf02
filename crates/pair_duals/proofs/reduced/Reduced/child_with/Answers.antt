use Rattle.std.proofs.Common.{◌≡◌, ◌+◌, ◌-◌, ◌*◌, false, length, map, arith, ap, ap₂, sym, subst, ◌∙◌, List, ℕ, to_z, of_z}
use Rattle.std.specs.Prelude.{remove, ◌+ℤ◌}
use Rattle.std.specs.Int.{w128}
use Rattle.std.proofs.lemmas.List.{length-map, take_at}
use Rattle.pair_duals.specs.Range.{IsInReach}
use Rattle.pair_duals.specs.Reduced.{Form, at, IsChild, child_entry}
use Rattle.pair_duals.proofs.Fillings.{AreEntries-filled}
use Rattle.pair_duals.proofs.Forms.{IsFormOf-child}
use Rattle.pair_duals.proofs.Reaches.{next_read}
use Rattle.pair_duals.proofs.Steps.{IsChild-made, IsInReach-child}
use Rattle.pair_duals.proofs.reduced.Reduced.child_with.Goals as goal

pub overflow_add-value : goal.overflow_add-value
overflow_add-value g c =
    let m = g.N.Number.limits in
    let R = c.args.self.now in
    let r : IsInReach m R = subst (IsInReach m) c.self.view_is c.self.invariant in
    (next_read m R c.args.h c.args.g c.self.inside.value c.widen.result g.met.N.Number.enough r c.requires.row c.requires.column (ap (λ (F : Form). F.value) c.self.view_is) (c.widen.ensures ∙ c.entry.ensures)).0

pub invariant_of-drop : goal.invariant_of-drop
invariant_of-drop g c =
    let m = g.N.Number.limits in
    let value = g.N.Number.value in
    let I = g.R.Residuals.problem c.args.residuals.now in
    let D = g.R.Residuals.duals c.args.residuals.now in
    let R = c.args.self.now in
    let h = c.args.h in
    let k = c.args.g in
    let r : IsInReach m R = subst (IsInReach m) c.self.view_is c.self.invariant in
    let z = to_z w128 (of_z w128 (to_z w128 (of_z w128 c.self.inside.value) +ℤ to_z w128 (of_z w128 c.widen.result))) in
    let rows = c.in_ok-rows.rows.items in
    let columns = c.in_ok-columns.columns.items in
    let new = c.write_child.new.entries in
    let same : length new ≡ c.resize.new.self.len = omega (arith, c.write_child.auto.entries, c.deref_mut.ensures.len, c.in_ok-resize.ensures.len) in
    let side : c.free-m.result - 1 ≡ length R.rows - 1 = omega (arith, c.free-m.ensures.value) in
    let count : length (map value new) ≡ (length R.rows - 1) * (length R.rows - 1) = length-map new value ∙ same ∙ c.in_ok-resize.ensures.len ∙ ap₂ ◌*◌ side side in
    let filled = AreEntries-filled (length R.rows - 1) (child_entry I D R.rows R.columns R.entries h k) _ (map value new) c.in_ok-write_child.ensures in
    let whole = sym (take_at new _ c.resize.new.self.len same) in
    let ez : z ≡ R.value +ℤ at R h k = (next_read m R h k c.self.inside.value c.widen.result g.met.N.Number.enough r c.requires.row c.requires.column (ap (λ (F : Form). F.value) c.self.view_is) (c.widen.ensures ∙ c.entry.ensures)).1 in
    let er : rows ≡ remove R.rows h = c.in_ok-rows.ensures ∙ ap (λ (l : List ℕ). remove l h) (c.deref.ensures.value ∙ ap (λ (F : Form). F.rows) c.self.view_is) in
    let ec : columns ≡ remove R.columns k = c.in_ok-columns.ensures ∙ ap (λ (l : List ℕ). remove l k) (c.deref-2.ensures.value ∙ ap (λ (F : Form). F.columns) c.self.view_is) in
    let depth : c.self.inside.depth ≡ R.depth = ap (λ (F : Form). F.depth) c.self.view_is in
    let P : List g.row.N.Denot → ℕ → Type 0 = λ es d. IsInReach m (record { value = z; rows = rows; columns = columns; entries = map value es; depth = d + 1; is_lined = false }) in
    subst (λ (es : List g.row.N.Denot). P es c.self.inside.depth) whole
    (subst (P new) (sym depth)
    (IsInReach-child m I D R h k z rows columns (map value new) g.met.N.Number.enough c.requires.duals c.requires.in_scale c.requires.size r c.requires.within c.requires.row c.requires.column ez er ec
    count filled))

pub returns-clause-child : goal.returns-clause-child
returns-clause-child g c =
    let m = g.N.Number.limits in
    let value = g.N.Number.value in
    let I = g.R.Residuals.problem c.args.residuals.now in
    let D = g.R.Residuals.duals c.args.residuals.now in
    let R = c.args.self.now in
    let h = c.args.h in
    let k = c.args.g in
    let r : IsInReach m R = subst (IsInReach m) c.self.view_is c.self.invariant in
    let z = to_z w128 (of_z w128 (to_z w128 (of_z w128 c.self.inside.value) +ℤ to_z w128 (of_z w128 c.widen.result))) in
    let rows = c.in_ok-rows.rows.items in
    let columns = c.in_ok-columns.columns.items in
    let new = c.write_child.new.entries in
    let same : length new ≡ c.resize.new.self.len = omega (arith, c.write_child.auto.entries, c.deref_mut.ensures.len, c.in_ok-resize.ensures.len) in
    let side : c.free-m.result - 1 ≡ length R.rows - 1 = omega (arith, c.free-m.ensures.value) in
    let count : length (map value new) ≡ (length R.rows - 1) * (length R.rows - 1) = length-map new value ∙ same ∙ c.in_ok-resize.ensures.len ∙ ap₂ ◌*◌ side side in
    let filled = AreEntries-filled (length R.rows - 1) (child_entry I D R.rows R.columns R.entries h k) _ (map value new) c.in_ok-write_child.ensures in
    let whole = sym (take_at new _ c.resize.new.self.len same) in
    let ez : z ≡ R.value +ℤ at R h k = (next_read m R h k c.self.inside.value c.widen.result g.met.N.Number.enough r c.requires.row c.requires.column (ap (λ (F : Form). F.value) c.self.view_is) (c.widen.ensures ∙ c.entry.ensures)).1 in
    let er : rows ≡ remove R.rows h = c.in_ok-rows.ensures ∙ ap (λ (l : List ℕ). remove l h) (c.deref.ensures.value ∙ ap (λ (F : Form). F.rows) c.self.view_is) in
    let ec : columns ≡ remove R.columns k = c.in_ok-columns.ensures ∙ ap (λ (l : List ℕ). remove l k) (c.deref-2.ensures.value ∙ ap (λ (F : Form). F.columns) c.self.view_is) in
    let depth : c.self.inside.depth ≡ R.depth = ap (λ (F : Form). F.depth) c.self.view_is in
    let P : List g.row.N.Denot → ℕ → Type 0 = λ es d. IsChild I D R h k (record { value = z; rows = rows; columns = columns; entries = map value es; depth = d + 1; is_lined = false }) in
    subst (λ (es : List g.row.N.Denot). P es c.self.inside.depth) whole
    (subst (P new) (sym depth) (IsChild-made I D R h k z rows columns (map value new) c.requires.row ez er ec filled))

pub returns-clause-form : goal.returns-clause-form
returns-clause-form g c = λ y is form.
    let r : IsInReach g.N.Number.limits c.args.self.now = subst (IsInReach g.N.Number.limits) c.self.view_is c.self.invariant in
    IsFormOf-child (g.R.Residuals.problem c.args.residuals.now) (g.R.Residuals.duals c.args.residuals.now) y c.args.self.now _ c.args.h c.args.g is c.requires.row (omega (arith, c.requires.column, r.wide)) form (returns-clause-child g c)
