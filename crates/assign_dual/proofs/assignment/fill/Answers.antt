use Rattle.std.proofs.Common.{◌≡◌, ◌<◌, ◌≤◌, ◌^◌, ◌∙◌, get_or, length, map, arith, below_more, get_or-set_same, get_or-set_other}
use Rattle.std.specs.Prelude.{pos, unsigned_abs}
use Rattle.std.specs.Int.{w128}
use Rattle.std.proofs.lemmas.Int.{to_z-of_z, fits_signed_from_abs}
use Rattle.std.proofs.lemmas.List.{length-map, length-set, map-set, ext_get_or}
use Rattle.assign_dual.proofs.assignment.fill.Goals as goal

pub loop-k-preserved : goal.loop-k-preserved
loop-k-preserved g c =
    let value = g.N.Number.value in
    let k = c.loop-k.k in
    let old = map value c.loop-k.target in
    let within : k < length old = omega (arith, length-map c.loop-k.target value, c.loop-k.invariant.count, c.loop-k-test.true) in
    let write = map-set value c.loop-k.target k c.narrow.result in
    let small : g.N.Number.most ≤ 10 ^ 21 = g.met.N.Number.small in
    let number = get_or c.args.numbers.now k (pos 0) in
    let near : unsigned_abs number ≤ g.N.Number.most = c.requires.range.each k c.loop-k-test.true in
    let same : value c.narrow.result ≡ number = c.narrow.ensures ∙ to_z-of_z w128 number (fits_signed_from_abs w128 number (omega (arith, near, small))) in
    record {
      count = length-set c.loop-k.target k c.narrow.result ∙ c.loop-k.invariant.count;
      filled = rw write
          (below_more _ _
          (λ j h. get_or-set_other old k j _ (pos 0) (λ e. omega arith) ∙ c.loop-k.invariant.filled j h)
          (get_or-set_same old k _ (pos 0) within ∙ same));
    }

pub returns : goal.returns
returns g c =
    let count = length-map c.loop-k.target g.N.Number.value in
    ext_get_or (pos 0) _ _ (omega (arith, count, c.loop-k.invariant.count))
    (λ j h. c.loop-k.invariant.filled j (omega (arith, h, count, c.loop-k.invariant.count, c.loop-k-test.false)))
