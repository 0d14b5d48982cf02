use Rattle.std.proofs.Common.{◌≡◌, ◌≤◌, ◌*◌, ◌+◌, ℕ, length, get_or, map, set, arith, ap, sym, subst, ◌∙◌}
use Rattle.std.specs.Prelude.{ℤ, pos, ◌-ℤ◌, unsigned_abs}
use Rattle.std.proofs.lemmas.Int.{ints}
use Rattle.std.proofs.lemmas.List.{length-map, map-set}
use Rattle.qap_cost.specs.Instance.{entry}
use Rattle.pair_duals.specs.Filling.{FillsPart}
use Rattle.pair_duals.specs.Reduced.{less_own}
use Rattle.pair_duals.proofs.Fillings.{FillsPart-none, FillsPart-more}
use Rattle.pair_duals.proofs.Values.{value_read}
use Rattle.pair_duals.proofs.least.take_from_row.Goals as goal

pub loop-c-init : goal.loop-c-init
loop-c-init g c = FillsPart-none _ _ _ _

pub difference-left-requires-clause-entry : goal.difference-left-requires-clause-entry
difference-left-requires-clause-entry g c =
    let value = g.N.Number.value in
    let k = c.loop-c.c in
    let at : c.args.start + k ≡ c.args.r * length c.args.v.now + k = omega (arith, c.requires.start) in
    let read = value_read value c.loop-c.entries (c.args.start + k) c.index-entries-start.result c.index-entries-start.is (omega (arith, c.requires.inside)) in
    let old : value c.index-entries-start.result ≡ entry (length c.args.v.now) (map value c.args.entries.now) c.args.r k =
    read ∙ ap (λ (j : ℕ). get_or (map value c.loop-c.entries) j (pos 0)) at ∙ c.loop-c.invariant.after (c.args.r * length c.args.v.now + k) (omega arith) in
    subst (λ (z : ℤ). unsigned_abs z ≤ g.N.Number.limits.reach) (sym old) (c.requires.range k c.loop-c-test.true)

pub minus-requires : goal.minus-requires
minus-requires g c =
    let value = g.N.Number.value in
    let k = c.loop-c.c in
    let m = length c.args.v.now in
    let at : c.args.start + k ≡ c.args.r * m + k = omega (arith, c.requires.start) in
    let read = value_read value c.loop-c.entries (c.args.start + k) c.index-entries-start.result c.index-entries-start.is (omega (arith, c.requires.inside)) in
    let old : value c.index-entries-start.result ≡ entry m (map value c.args.entries.now) c.args.r k =
    read ∙ ap (λ (j : ℕ). get_or (map value c.loop-c.entries) j (pos 0)) at ∙ c.loop-c.invariant.after (c.args.r * m + k) (omega arith) in
    let other = value_read value c.args.v.now k c.index-v-c.result c.index-v-c.is c.loop-c-test.true in
    let is : value c.difference-left.result -ℤ value c.index-v-c.result ≡ less_own m (map value c.args.entries.now) (value c.args.own) (map value c.args.v.now) c.args.r k =
    omega (arith, ints, old, other, c.difference-left.ensures) in
    subst (λ (z : ℤ). unsigned_abs z ≤ g.N.Number.limits.sum) (sym is) (c.requires.room k c.loop-c-test.true)

pub loop-c-preserved : goal.loop-c-preserved
loop-c-preserved g c =
    let value = g.N.Number.value in
    let k = c.loop-c.c in
    let m = length c.args.v.now in
    let at : c.args.start + k ≡ c.args.r * m + k = omega (arith, c.requires.start) in
    let read = value_read value c.loop-c.entries (c.args.start + k) c.index-entries-start.result c.index-entries-start.is (omega (arith, c.requires.inside)) in
    let old : value c.index-entries-start.result ≡ entry m (map value c.args.entries.now) c.args.r k =
    read ∙ ap (λ (j : ℕ). get_or (map value c.loop-c.entries) j (pos 0)) at ∙ c.loop-c.invariant.after (c.args.r * m + k) (omega arith) in
    let other = value_read value c.args.v.now k c.index-v-c.result c.index-v-c.is c.loop-c-test.true in
    let f = less_own m (map value c.args.entries.now) (value c.args.own) (map value c.args.v.now) in
    let is : value c.minus.result ≡ f c.args.r k = omega (arith, ints, old, other, c.difference-left.ensures, c.minus.ensures) in
    let count = length-map c.loop-c.entries value in
    rw (map-set value c.loop-c.entries (c.args.start + k) c.minus.result)
    (subst (λ (j : ℕ). FillsPart m f c.args.r (k + 1) (map value c.args.entries.now) (set (map value c.loop-c.entries) j (value c.minus.result))) (sym at)
    (FillsPart-more m f c.args.r k (map value c.args.entries.now) (map value c.loop-c.entries) (value c.minus.result) c.loop-c.invariant (omega (arith, count, at, c.requires.inside)) is))

pub returns : goal.returns
returns g c =
    let value = g.N.Number.value in
    let m = length c.args.v.now in
    let all : c.loop-c.c ≡ m = omega arith in
    subst (λ (k : ℕ). FillsPart m (less_own m (map value c.args.entries.now) (value c.args.own) (map value c.args.v.now)) c.args.r k (map value c.args.entries.now) (map value c.loop-c.entries)) all c.loop-c.invariant
