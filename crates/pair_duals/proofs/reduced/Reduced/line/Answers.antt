use Rattle.std.proofs.Common.{◌≡◌, ◌<◌, ◌≤◌, ◌*◌, ◌++◌, true, length, map, take, drop, arith, ap, ap₂, sym, subst, ◌∙◌, List, ℕ, to_z, of_z}
use Rattle.std.specs.Prelude.{ℤ, ◌+ℤ◌, unsigned_abs}
use Rattle.std.specs.Int.{w128}
use Rattle.std.proofs.lemmas.List.{length-map, take_at}
use Rattle.qap_cost.specs.Matrix.{total}
use Rattle.qap_cost.specs.Range.{AllWithin}
use Rattle.pair_duals.specs.Filling.{AreEntries, FillsRows}
use Rattle.pair_duals.specs.Range.{IsInReach}
use Rattle.pair_duals.specs.Reduced.{Form, count_of, AreLeast, IsLine, IsNonNegative, less_both}
use Rattle.pair_duals.proofs.Fillings.{AreEntries-filled}
use Rattle.pair_duals.proofs.Forms.{IsFormOf-line}
use Rattle.pair_duals.proofs.Products.{roomy}
use Rattle.pair_duals.proofs.Reaches.{entries-within, leasts-within, line_room, sums_read}
use Rattle.pair_duals.proofs.Steps.{IsInReach-line, IsLine-made, IsNonNegative-line}
use Rattle.pair_duals.proofs.reduced.Reduced.line.Goals as goal

pub least_of_columns-requires-clause-range : goal.least_of_columns-requires-clause-range
least_of_columns-requires-clause-range g c =
    let m = g.N.Number.limits in
    let value = g.N.Number.value in
    let enough = g.met.N.Number.enough in
    let R = c.args.self.now in
    let r : IsInReach m R = subst (IsInReach m) c.self.view_is c.self.invariant in
    let us = map value c.args.u.now in
    let lu : length us ≡ count_of R = length-map c.args.u.now value ∙ c.requires.rows in
    let ee : map value c.self.inside.entries.items ≡ R.entries = ap (λ (F : Form). F.entries) c.self.view_is in
    let e1 : map value c.deref.result.now ≡ R.entries = ap (map value) c.deref.ensures.value ∙ ee in
    subst (AllWithin m.reach) (sym e1) (entries-within m R enough r)

pub take_both-requires-clause-range : goal.take_both-requires-clause-range
take_both-requires-clause-range g c =
    let m = g.N.Number.limits in
    let value = g.N.Number.value in
    let enough = g.met.N.Number.enough in
    let R = c.args.self.now in
    let r : IsInReach m R = subst (IsInReach m) c.self.view_is c.self.invariant in
    let us = map value c.args.u.now in
    let lu : length us ≡ count_of R = length-map c.args.u.now value ∙ c.requires.rows in
    let ee : map value c.self.inside.entries.items ≡ R.entries = ap (λ (F : Form). F.entries) c.self.view_is in
    let e2 : map value c.deref_mut.result.now ≡ R.entries = ap (map value) c.deref_mut.ensures.value ∙ ee in
    subst (AllWithin m.reach) (sym e2) (entries-within m R enough r)

pub take_both-requires-clause-room : goal.take_both-requires-clause-room
take_both-requires-clause-room g c =
    let m = g.N.Number.limits in
    let value = g.N.Number.value in
    let enough = g.met.N.Number.enough in
    let R = c.args.self.now in
    let r : IsInReach m R = subst (IsInReach m) c.self.view_is c.self.invariant in
    let us = map value c.args.u.now in
    let lu : length us ≡ count_of R = length-map c.args.u.now value ∙ c.requires.rows in
    let ee : map value c.self.inside.entries.items ≡ R.entries = ap (λ (F : Form). F.entries) c.self.view_is in
    let e1 : map value c.deref.result.now ≡ R.entries = ap (map value) c.deref.ensures.value ∙ ee in
    let e2 : map value c.deref_mut.result.now ≡ R.entries = ap (map value) c.deref_mut.ensures.value ∙ ee in
    let vs = map value c.least_of_columns.new.v in
    let least : AreLeast (count_of R) R.entries us vs = subst (λ (n : ℕ). AreLeast n R.entries us vs) c.requires.rows (subst (λ (es : List ℤ). AreLeast (length c.args.u.now) es us vs) e1 c.least_of_columns.ensures) in
    subst (λ (n : ℕ). (i k : ℕ) → i < n → k < n → unsigned_abs (less_both n (map value c.deref_mut.result.now) us vs i k) ≤ m.sum) (sym c.requires.rows)
    (subst (λ (es : List ℤ). (i k : ℕ) → i < count_of R → k < count_of R → unsigned_abs (less_both (count_of R) es us vs i k) ≤ m.sum) (sym e2) (line_room m R us vs enough r c.requires.range lu least))

pub sum-requires-2-clause-range : goal.sum-requires-2-clause-range
sum-requires-2-clause-range g c =
    let m = g.N.Number.limits in
    let value = g.N.Number.value in
    let enough = g.met.N.Number.enough in
    let R = c.args.self.now in
    let r : IsInReach m R = subst (IsInReach m) c.self.view_is c.self.invariant in
    let us = map value c.args.u.now in
    let lu : length us ≡ count_of R = length-map c.args.u.now value ∙ c.requires.rows in
    let ee : map value c.self.inside.entries.items ≡ R.entries = ap (λ (F : Form). F.entries) c.self.view_is in
    let e1 : map value c.deref.result.now ≡ R.entries = ap (map value) c.deref.ensures.value ∙ ee in
    let vs = map value c.least_of_columns.new.v in
    let least : AreLeast (count_of R) R.entries us vs = subst (λ (n : ℕ). AreLeast n R.entries us vs) c.requires.rows (subst (λ (es : List ℤ). AreLeast (length c.args.u.now) es us vs) e1 c.least_of_columns.ensures) in
    leasts-within m R m.dual us vs enough r (roomy m enough).dual_reach c.requires.range lu least

pub overflow_add-self : goal.overflow_add-self
overflow_add-self g c =
    let m = g.N.Number.limits in
    let value = g.N.Number.value in
    let enough = g.met.N.Number.enough in
    let R = c.args.self.now in
    let r : IsInReach m R = subst (IsInReach m) c.self.view_is c.self.invariant in
    let us = map value c.args.u.now in
    let lu : length us ≡ count_of R = length-map c.args.u.now value ∙ c.requires.rows in
    let ee : map value c.self.inside.entries.items ≡ R.entries = ap (λ (F : Form). F.entries) c.self.view_is in
    let e1 : map value c.deref.result.now ≡ R.entries = ap (map value) c.deref.ensures.value ∙ ee in
    let vs = map value c.least_of_columns.new.v in
    let least : AreLeast (count_of R) R.entries us vs = subst (λ (n : ℕ). AreLeast n R.entries us vs) c.requires.rows (subst (λ (es : List ℤ). AreLeast (length c.args.u.now) es us vs) e1 c.least_of_columns.ensures) in
    let lv : length c.least_of_columns.new.v ≡ count_of R = sym (length-map c.least_of_columns.new.v value) ∙ least.count in
    let few : count_of R ≤ 256 = omega (arith, r.deep, enough.small) in
    let ku : length c.args.u.now ≤ 256 = omega (arith, few, c.requires.rows) in
    let kv : length c.least_of_columns.new.v ≤ 256 = omega (arith, few, lv) in
    let read = sums_read m R c.self.inside.value c.sum.result c.sum-2.result (length c.args.u.now) (length c.least_of_columns.new.v) enough r (ap (λ (F : Form). F.value) c.self.view_is) ku kv c.sum.ensures.bounded c.sum-2.ensures.bounded in
    read.0

pub overflow_add-self-2 : goal.overflow_add-self-2
overflow_add-self-2 g c =
    let m = g.N.Number.limits in
    let value = g.N.Number.value in
    let enough = g.met.N.Number.enough in
    let R = c.args.self.now in
    let r : IsInReach m R = subst (IsInReach m) c.self.view_is c.self.invariant in
    let us = map value c.args.u.now in
    let lu : length us ≡ count_of R = length-map c.args.u.now value ∙ c.requires.rows in
    let ee : map value c.self.inside.entries.items ≡ R.entries = ap (λ (F : Form). F.entries) c.self.view_is in
    let e1 : map value c.deref.result.now ≡ R.entries = ap (map value) c.deref.ensures.value ∙ ee in
    let vs = map value c.least_of_columns.new.v in
    let least : AreLeast (count_of R) R.entries us vs = subst (λ (n : ℕ). AreLeast n R.entries us vs) c.requires.rows (subst (λ (es : List ℤ). AreLeast (length c.args.u.now) es us vs) e1 c.least_of_columns.ensures) in
    let lv : length c.least_of_columns.new.v ≡ count_of R = sym (length-map c.least_of_columns.new.v value) ∙ least.count in
    let few : count_of R ≤ 256 = omega (arith, r.deep, enough.small) in
    let ku : length c.args.u.now ≤ 256 = omega (arith, few, c.requires.rows) in
    let kv : length c.least_of_columns.new.v ≤ 256 = omega (arith, few, lv) in
    let read = sums_read m R c.self.inside.value c.sum.result c.sum-2.result (length c.args.u.now) (length c.least_of_columns.new.v) enough r (ap (λ (F : Form). F.value) c.self.view_is) ku kv c.sum.ensures.bounded c.sum-2.ensures.bounded in
    read.1

pub invariant_of-self : goal.invariant_of-self
invariant_of-self g c =
    let m = g.N.Number.limits in
    let value = g.N.Number.value in
    let enough = g.met.N.Number.enough in
    let R = c.args.self.now in
    let r : IsInReach m R = subst (IsInReach m) c.self.view_is c.self.invariant in
    let us = map value c.args.u.now in
    let lu : length us ≡ count_of R = length-map c.args.u.now value ∙ c.requires.rows in
    let ee : map value c.self.inside.entries.items ≡ R.entries = ap (λ (F : Form). F.entries) c.self.view_is in
    let e1 : map value c.deref.result.now ≡ R.entries = ap (map value) c.deref.ensures.value ∙ ee in
    let e2 : map value c.deref_mut.result.now ≡ R.entries = ap (map value) c.deref_mut.ensures.value ∙ ee in
    let vs = map value c.least_of_columns.new.v in
    let least : AreLeast (count_of R) R.entries us vs = subst (λ (n : ℕ). AreLeast n R.entries us vs) c.requires.rows (subst (λ (es : List ℤ). AreLeast (length c.args.u.now) es us vs) e1 c.least_of_columns.ensures) in
    let lv : length c.least_of_columns.new.v ≡ count_of R = sym (length-map c.least_of_columns.new.v value) ∙ least.count in
    let few : count_of R ≤ 256 = omega (arith, r.deep, enough.small) in
    let ku : length c.args.u.now ≤ 256 = omega (arith, few, c.requires.rows) in
    let kv : length c.least_of_columns.new.v ≤ 256 = omega (arith, few, lv) in
    let read = sums_read m R c.self.inside.value c.sum.result c.sum-2.result (length c.args.u.now) (length c.least_of_columns.new.v) enough r (ap (λ (F : Form). F.value) c.self.view_is) ku kv c.sum.ensures.bounded c.sum-2.ensures.bounded in
    let z = to_z w128 (of_z w128 (to_z w128 (of_z w128 c.self.inside.value) +ℤ to_z w128 (of_z w128 (to_z w128 (of_z w128 c.sum.result) +ℤ to_z w128 (of_z w128 c.sum-2.result))))) in
    let ez : z ≡ R.value +ℤ (total us +ℤ total vs) = read.2 ∙ ap₂ (λ (a b : ℤ). R.value +ℤ (a +ℤ b)) c.sum.ensures.value c.sum-2.ensures.value in
    let new = c.take_both.new.entries in
    let written = take c.self.inside.entries.len (new ++ drop (length new) c.self.inside.entries.items) in
    let same : written ≡ new = take_at new (drop (length new) c.self.inside.entries.items) c.self.inside.entries.len (c.take_both.auto.entries ∙ c.deref_mut.ensures.len) in
    let filled : FillsRows (count_of R) (less_both (count_of R) R.entries us vs) (count_of R) R.entries (map value new) =
    subst (λ (n : ℕ). FillsRows n (less_both n R.entries us vs) n R.entries (map value new)) c.requires.rows (subst (λ (es : List ℤ). FillsRows (length c.args.u.now) (less_both (length c.args.u.now) es us vs) (length c.args.u.now) es (map value new)) e2 c.take_both.ensures) in
    let entries : AreEntries (count_of R) (less_both (count_of R) R.entries us vs) (map value written) =
    subst (λ (xs : List g.row.N.Denot). AreEntries (count_of R) (less_both (count_of R) R.entries us vs) (map value xs)) (sym same) (AreEntries-filled (count_of R) (less_both (count_of R) R.entries us vs) R.entries (map value new) filled) in
    let count : length (map value written) ≡ count_of R * count_of R = ap (λ (xs : List g.row.N.Denot). length (map value xs)) same ∙ filled.same_length ∙ r.count in
    let hu : unsigned_abs (total us) ≤ length us * m.sum = omega (arith, ap unsigned_abs c.sum.ensures.value, c.sum.ensures.bounded, ap (λ (n : ℕ). n * m.sum) (length-map c.args.u.now value)) in
    let hv : unsigned_abs (total vs) ≤ length vs * m.sum = omega (arith, ap unsigned_abs c.sum-2.ensures.value, c.sum-2.ensures.bounded, ap (λ (n : ℕ). n * m.sum) (length-map c.least_of_columns.new.v value)) in
    let P : Form → Type 0 = λ F. IsInReach m (record { value = z; rows = F.rows; columns = F.columns; entries = map value written; depth = F.depth; is_lined = true }) in
    subst P (sym c.self.view_is) (IsInReach-line m R z us vs (map value written) enough r c.requires.first lu c.requires.range least hu hv ez count entries)

pub returns-clause-line : goal.returns-clause-line
returns-clause-line g c =
    let m = g.N.Number.limits in
    let value = g.N.Number.value in
    let enough = g.met.N.Number.enough in
    let R = c.args.self.now in
    let r : IsInReach m R = subst (IsInReach m) c.self.view_is c.self.invariant in
    let us = map value c.args.u.now in
    let lu : length us ≡ count_of R = length-map c.args.u.now value ∙ c.requires.rows in
    let ee : map value c.self.inside.entries.items ≡ R.entries = ap (λ (F : Form). F.entries) c.self.view_is in
    let e1 : map value c.deref.result.now ≡ R.entries = ap (map value) c.deref.ensures.value ∙ ee in
    let e2 : map value c.deref_mut.result.now ≡ R.entries = ap (map value) c.deref_mut.ensures.value ∙ ee in
    let vs = map value c.least_of_columns.new.v in
    let least : AreLeast (count_of R) R.entries us vs = subst (λ (n : ℕ). AreLeast n R.entries us vs) c.requires.rows (subst (λ (es : List ℤ). AreLeast (length c.args.u.now) es us vs) e1 c.least_of_columns.ensures) in
    let lv : length c.least_of_columns.new.v ≡ count_of R = sym (length-map c.least_of_columns.new.v value) ∙ least.count in
    let few : count_of R ≤ 256 = omega (arith, r.deep, enough.small) in
    let ku : length c.args.u.now ≤ 256 = omega (arith, few, c.requires.rows) in
    let kv : length c.least_of_columns.new.v ≤ 256 = omega (arith, few, lv) in
    let read = sums_read m R c.self.inside.value c.sum.result c.sum-2.result (length c.args.u.now) (length c.least_of_columns.new.v) enough r (ap (λ (F : Form). F.value) c.self.view_is) ku kv c.sum.ensures.bounded c.sum-2.ensures.bounded in
    let z = to_z w128 (of_z w128 (to_z w128 (of_z w128 c.self.inside.value) +ℤ to_z w128 (of_z w128 (to_z w128 (of_z w128 c.sum.result) +ℤ to_z w128 (of_z w128 c.sum-2.result))))) in
    let ez : z ≡ R.value +ℤ (total us +ℤ total vs) = read.2 ∙ ap₂ (λ (a b : ℤ). R.value +ℤ (a +ℤ b)) c.sum.ensures.value c.sum-2.ensures.value in
    let new = c.take_both.new.entries in
    let written = take c.self.inside.entries.len (new ++ drop (length new) c.self.inside.entries.items) in
    let same : written ≡ new = take_at new (drop (length new) c.self.inside.entries.items) c.self.inside.entries.len (c.take_both.auto.entries ∙ c.deref_mut.ensures.len) in
    let filled : FillsRows (count_of R) (less_both (count_of R) R.entries us vs) (count_of R) R.entries (map value new) =
    subst (λ (n : ℕ). FillsRows n (less_both n R.entries us vs) n R.entries (map value new)) c.requires.rows (subst (λ (es : List ℤ). FillsRows (length c.args.u.now) (less_both (length c.args.u.now) es us vs) (length c.args.u.now) es (map value new)) e2 c.take_both.ensures) in
    let entries : AreEntries (count_of R) (less_both (count_of R) R.entries us vs) (map value written) =
    subst (λ (xs : List g.row.N.Denot). AreEntries (count_of R) (less_both (count_of R) R.entries us vs) (map value xs)) (sym same) (AreEntries-filled (count_of R) (less_both (count_of R) R.entries us vs) R.entries (map value new) filled) in
    let count : length (map value written) ≡ count_of R * count_of R = ap (λ (xs : List g.row.N.Denot). length (map value xs)) same ∙ filled.same_length ∙ r.count in
    let P : Form → Type 0 = λ F. IsLine R (record { value = z; rows = F.rows; columns = F.columns; entries = map value written; depth = F.depth; is_lined = true }) us vs in
    subst P (sym c.self.view_is) (IsLine-made R z us vs (map value written) lu least ez entries)

pub returns-clause-least : goal.returns-clause-least
returns-clause-least g c =
    let m = g.N.Number.limits in
    let value = g.N.Number.value in
    let enough = g.met.N.Number.enough in
    let R = c.args.self.now in
    let r : IsInReach m R = subst (IsInReach m) c.self.view_is c.self.invariant in
    let us = map value c.args.u.now in
    let lu : length us ≡ count_of R = length-map c.args.u.now value ∙ c.requires.rows in
    let ee : map value c.self.inside.entries.items ≡ R.entries = ap (λ (F : Form). F.entries) c.self.view_is in
    let e1 : map value c.deref.result.now ≡ R.entries = ap (map value) c.deref.ensures.value ∙ ee in
    let e2 : map value c.deref_mut.result.now ≡ R.entries = ap (map value) c.deref_mut.ensures.value ∙ ee in
    let vs = map value c.least_of_columns.new.v in
    let least : AreLeast (count_of R) R.entries us vs = subst (λ (n : ℕ). AreLeast n R.entries us vs) c.requires.rows (subst (λ (es : List ℤ). AreLeast (length c.args.u.now) es us vs) e1 c.least_of_columns.ensures) in
    let lv : length c.least_of_columns.new.v ≡ count_of R = sym (length-map c.least_of_columns.new.v value) ∙ least.count in
    let few : count_of R ≤ 256 = omega (arith, r.deep, enough.small) in
    let ku : length c.args.u.now ≤ 256 = omega (arith, few, c.requires.rows) in
    let kv : length c.least_of_columns.new.v ≤ 256 = omega (arith, few, lv) in
    let read = sums_read m R c.self.inside.value c.sum.result c.sum-2.result (length c.args.u.now) (length c.least_of_columns.new.v) enough r (ap (λ (F : Form). F.value) c.self.view_is) ku kv c.sum.ensures.bounded c.sum-2.ensures.bounded in
    let z = to_z w128 (of_z w128 (to_z w128 (of_z w128 c.self.inside.value) +ℤ to_z w128 (of_z w128 (to_z w128 (of_z w128 c.sum.result) +ℤ to_z w128 (of_z w128 c.sum-2.result))))) in
    let ez : z ≡ R.value +ℤ (total us +ℤ total vs) = read.2 ∙ ap₂ (λ (a b : ℤ). R.value +ℤ (a +ℤ b)) c.sum.ensures.value c.sum-2.ensures.value in
    let new = c.take_both.new.entries in
    let written = take c.self.inside.entries.len (new ++ drop (length new) c.self.inside.entries.items) in
    let same : written ≡ new = take_at new (drop (length new) c.self.inside.entries.items) c.self.inside.entries.len (c.take_both.auto.entries ∙ c.deref_mut.ensures.len) in
    let filled : FillsRows (count_of R) (less_both (count_of R) R.entries us vs) (count_of R) R.entries (map value new) =
    subst (λ (n : ℕ). FillsRows n (less_both n R.entries us vs) n R.entries (map value new)) c.requires.rows (subst (λ (es : List ℤ). FillsRows (length c.args.u.now) (less_both (length c.args.u.now) es us vs) (length c.args.u.now) es (map value new)) e2 c.take_both.ensures) in
    let entries : AreEntries (count_of R) (less_both (count_of R) R.entries us vs) (map value written) =
    subst (λ (xs : List g.row.N.Denot). AreEntries (count_of R) (less_both (count_of R) R.entries us vs) (map value xs)) (sym same) (AreEntries-filled (count_of R) (less_both (count_of R) R.entries us vs) R.entries (map value new) filled) in
    let count : length (map value written) ≡ count_of R * count_of R = ap (λ (xs : List g.row.N.Denot). length (map value xs)) same ∙ filled.same_length ∙ r.count in
    let P : Form → Type 0 = λ F. IsNonNegative (record { value = z; rows = F.rows; columns = F.columns; entries = map value written; depth = F.depth; is_lined = true }) in
    subst P (sym c.self.view_is) (IsNonNegative-line m R z us vs (map value written) r lu c.requires.range least entries)

pub returns-clause-form : goal.returns-clause-form
returns-clause-form g c =
    λ I D y is form. IsFormOf-line I D y c.args.self.now _ (map g.N.Number.value c.args.u.now) (map g.N.Number.value c.least_of_columns.new.v) is form (returns-clause-line g c)
