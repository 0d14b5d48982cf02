use Rattle.std.proofs.Common.{◌≡◌, ◌<◌, ◌≤◌, ◌*◌, ◌+◌, ℕ, length, map, arith, sym, subst}
use Rattle.std.specs.Prelude.{ℤ, unsigned_abs}
use Rattle.std.proofs.lemmas.Int.{ints}
use Rattle.std.proofs.lemmas.List.{length-map}
use Rattle.qap_cost.specs.Instance.{entry}
use Rattle.pair_duals.specs.Filling.{FillsPart, FillsRows}
use Rattle.pair_duals.specs.Reduced.{less_both, less_own}
use Rattle.pair_duals.proofs.Fillings.{FillsPart-along, FillsRows-none, FillsRows-more}
use Rattle.pair_duals.proofs.Values.{value_read, value_within, place_in_square}
use Rattle.pair_duals.proofs.least.take_both.Goals as goal

pub loop-r-init : goal.loop-r-init
loop-r-init g c = FillsRows-none _ _ _

pub take_from_row-requires-clause-own_range : goal.take_from_row-requires-clause-own_range
take_from_row-requires-clause-own_range g c = value_within g.N.Number.value c.args.u.now c.loop-r.r c.index-u-r.result _ c.requires.u_range c.index-u-r.is c.loop-r-test.true

pub take_from_row-requires-clause-range : goal.take_from_row-requires-clause-range
take_from_row-requires-clause-range g c = λ k hk.
    let value = g.N.Number.value in
    let m = length c.args.u.now in
    let r = c.loop-r.r in
    let below : k < m = omega (arith, c.requires.columns) in
    let same : entry m (map value c.loop-r.entries) r k ≡ entry m (map value c.args.entries.now) r k = c.loop-r.invariant.after (r * m + k) (omega arith) in
    subst (λ (n : ℕ). unsigned_abs (entry n (map value c.loop-r.entries) r k) ≤ g.N.Number.limits.reach) (sym c.requires.columns)
    (subst (λ (z : ℤ). unsigned_abs z ≤ g.N.Number.limits.reach) (sym same)
    (c.requires.range.each (r * m + k) (omega (arith, length-map c.args.entries.now value, c.requires.count, place_in_square m r k c.loop-r-test.true below))))

pub take_from_row-requires-clause-room : goal.take_from_row-requires-clause-room
take_from_row-requires-clause-room g c = λ k hk.
    let value = g.N.Number.value in
    let m = length c.args.u.now in
    let r = c.loop-r.r in
    let us = map value c.args.u.now in
    let vs = map value c.args.v.now in
    let below : k < m = omega (arith, c.requires.columns) in
    let same : entry m (map value c.loop-r.entries) r k ≡ entry m (map value c.args.entries.now) r k = c.loop-r.invariant.after (r * m + k) (omega arith) in
    let own = value_read value c.args.u.now r c.index-u-r.result c.index-u-r.is c.loop-r-test.true in
    let is : less_own m (map value c.loop-r.entries) (value c.index-u-r.result) vs r k ≡ less_both m (map value c.args.entries.now) us vs r k = omega (arith, ints, same, own) in
    subst (λ (n : ℕ). unsigned_abs (less_own n (map value c.loop-r.entries) (value c.index-u-r.result) vs r k) ≤ g.N.Number.limits.sum) (sym c.requires.columns)
    (subst (λ (z : ℤ). unsigned_abs z ≤ g.N.Number.limits.sum) (sym is) (c.requires.room r k c.loop-r-test.true below))

pub loop-r-preserved : goal.loop-r-preserved
loop-r-preserved g c =
    let value = g.N.Number.value in
    let m = length c.args.u.now in
    let r = c.loop-r.r in
    let us = map value c.args.u.now in
    let vs = map value c.args.v.now in
    let mid = map value c.loop-r.entries in
    let new = map value c.take_from_row.new.entries in
    let own = value_read value c.args.u.now r c.index-u-r.result c.index-u-r.is c.loop-r-test.true in
    let part : FillsPart m (less_own m mid (value c.index-u-r.result) vs) r m mid new =
    subst (λ (n : ℕ). FillsPart n (less_own n mid (value c.index-u-r.result) vs) r n mid new) c.requires.columns c.take_from_row.ensures in
    let f = less_both m (map value c.args.entries.now) us vs in
    FillsRows-more m f r (map value c.args.entries.now) mid new c.loop-r.invariant
    (FillsPart-along m (less_own m mid (value c.index-u-r.result) vs) f r m mid new part (λ k hk.
    let same : entry m mid r k ≡ entry m (map value c.args.entries.now) r k = c.loop-r.invariant.after (r * m + k) (omega arith) in
    omega (arith, ints, same, own)))

pub returns : goal.returns
returns g c =
    let value = g.N.Number.value in
    let m = length c.args.u.now in
    let all : c.loop-r.r ≡ m = omega arith in
    subst (λ (k : ℕ). FillsRows m (less_both m (map value c.args.entries.now) (map value c.args.u.now) (map value c.args.v.now)) k (map value c.args.entries.now) (map value c.loop-r.entries)) all c.loop-r.invariant
