use Rattle.std.proofs.Common.{◌≡◌, ◌≢◌, ℕ, ◌<◌, ◌≤◌, ◌*◌, ◌∙◌, get_or, length, map, arith, subst, sym}
use Rattle.std.specs.Prelude.{ℤ, unsigned_abs}
use Rattle.std.proofs.lemmas.Int.{ints}
use Rattle.std.proofs.lemmas.List.{length-map, map-set}
use Rattle.assign_dual.proofs.Shifting.{RaisesRows-more}
use Rattle.assign_dual.proofs.Values.{value_read}
use Rattle.assign_dual.proofs.shift.raise_rows.Goals as goal
use Rattle.assign_dual.specs.Number.{number_at}

pub raised-requires-clause-dual : goal.raised-requires-clause-dual
raised-requires-clause-dual g c =
    let value = g.N.Number.value in
    let p = c.loop-p.p in
    let i = get_or c.args.tree_rows.now p 0 in
    let below : p < c.args.count = omega arith in
    let within : i < length c.args.u.now = c.requires.within p below in
    let counts = length-map c.args.u.now value in
    let apart : (s : ℕ) → s < p → get_or c.args.tree_rows.now s 0 ≢ i = λ s lt e. let x = c.requires.distinct s p (omega arith) below e in omega arith in
    let same : number_at (map value c.loop-p.u) i ≡ number_at (map value c.args.u.now) i = c.loop-p.invariant.others i apart in
    let dual = value_read value c.loop-p.u i _ c.index-u-row.is (omega arith) in
    subst (λ (z : ℤ). unsigned_abs z ≤ g.N.Number.most) (sym (dual ∙ same)) (c.requires.u_range.each i (omega arith))

pub raised-requires-clause-distance : goal.raised-requires-clause-distance
raised-requires-clause-distance g c =
    let value = g.N.Number.value in
    let p = c.loop-p.p in
    let below : p < c.args.count = omega arith in
    subst (λ (z : ℤ). unsigned_abs z ≤ 3 * g.N.Number.most) (sym (value_read value c.args.row_distances.now p _ c.index-row_distances-p.is (omega (arith, c.requires.distances_count)))) (c.requires.row_distances_range p below)

pub loop-p-preserved : goal.loop-p-preserved
loop-p-preserved g c =
    let value = g.N.Number.value in
    let p = c.loop-p.p in
    let i = get_or c.args.tree_rows.now p 0 in
    let below : p < c.args.count = omega arith in
    let within : i < length c.args.u.now = c.requires.within p below in
    let counts = length-map c.args.u.now value in
    let apart : (s : ℕ) → s < p → get_or c.args.tree_rows.now s 0 ≢ i = λ s lt e. let x = c.requires.distinct s p (omega arith) below e in omega arith in
    let same : number_at (map value c.loop-p.u) i ≡ number_at (map value c.args.u.now) i = c.loop-p.invariant.others i apart in
    let dual = value_read value c.loop-p.u i _ c.index-u-row.is (omega arith) in
    let distance = value_read value c.args.row_distances.now p _ c.index-row_distances-p.is (omega (arith, c.requires.distances_count)) in
    let write = map-set value c.loop-p.u i c.raised.result in
    rw write
    (RaisesRows-more _ _ _ _ _ _ _ c.loop-p.invariant (omega (arith, length-map c.loop-p.u value)) apart (omega (arith, ints, dual, distance, c.raised.ensures)))
