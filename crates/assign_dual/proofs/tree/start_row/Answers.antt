use Rattle.std.proofs.Common.{◌<◌, length, map, arith, ◌∙◌, below_more, get_or-set_same, get_or-set_other}
use Rattle.std.specs.Prelude.{pos}
use Rattle.std.proofs.lemmas.Int.{ints}
use Rattle.std.proofs.lemmas.List.{length-map, map-set}
use Rattle.assign_dual.proofs.Values.{value_read, value_within}
use Rattle.assign_dual.proofs.tree.start_row.Goals as goal

pub less-requires-clause-entry : goal.less-requires-clause-entry
less-requires-clause-entry g c = value_within _ _ _ _ _ c.requires.row_range c.index-row-k.is c.loop-k-test.true

pub less-requires-clause-dual : goal.less-requires-clause-dual
less-requires-clause-dual g c = value_within _ _ _ _ _ c.requires.v_range c.index-v-k.is (omega (arith, c.loop-k-test.true, c.requires.v_count))

pub loop-k-preserved : goal.loop-k-preserved
loop-k-preserved g c =
    let value = g.N.Number.value in
    let k = c.loop-k.k in
    let below : k < length c.args.row.now = c.loop-k-test.true in
    let old = map value c.loop-k.distances in
    let in_distances : k < length old = omega (arith, length-map c.loop-k.distances value) in
    let in_origins : k < length c.loop-k.origins = omega arith in
    let entry = value_read value c.args.row.now k _ c.index-row-k.is below in
    let column = value_read value c.args.v.now k _ c.index-v-k.is (omega (arith, c.requires.v_count)) in
    let write = map-set value c.loop-k.distances k c.less.result in
    rw write
    (record {
      distance = below_more _ _
          (λ j h. get_or-set_other old k j _ (pos 0) (λ e. omega arith) ∙ c.loop-k.invariant.distance j h)
          (get_or-set_same old k _ (pos 0) in_distances ∙ omega (arith, ints, c.less.ensures, entry, column));
      origin = below_more _ _
          (λ j h. get_or-set_other c.loop-k.origins k j 0 0 (λ e. omega arith) ∙ c.loop-k.invariant.origin j h)
          (get_or-set_same c.loop-k.origins k 0 0 in_origins);
    })
