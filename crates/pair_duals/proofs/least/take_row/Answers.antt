use Rattle.std.proofs.Common.{arith, ap, ◌∙◌}
use Rattle.std.specs.Prelude.{ℤ, ◌-ℤ◌}
use Rattle.std.proofs.lemmas.List.{length-map, map-set}
use Rattle.pair_duals.proofs.Leasts.{TakesPart-more}
use Rattle.pair_duals.proofs.Values.{value_read, value_within}
use Rattle.pair_duals.proofs.least.take_row.Goals as goal

pub difference-requires-clause-entry : goal.difference-requires-clause-entry
difference-requires-clause-entry g c =
    value_within g.N.Number.value c.args.entries.now c.loop-c.c c.index-entries-c.result _ c.requires.range c.index-entries-c.is (omega (arith, c.requires.count))

pub loop-c-preserved : goal.loop-c-preserved
loop-c-preserved g c =
    let value = g.N.Number.value in
    let read = value_read value c.args.entries.now c.loop-c.c c.index-entries-c.result c.index-entries-c.is (omega (arith, c.requires.count)) in
    rw (map-set value c.loop-c.least c.loop-c.c c.difference.result)
    (TakesPart-more _ _ _ _ _ c.loop-c.invariant (omega (arith, length-map c.loop-c.least value)) (c.difference.ensures ∙ ap (λ (z : ℤ). z -ℤ value c.args.own) read))

pub returns : goal.returns
returns g c = record { each = λ d h. c.loop-c.invariant.each d (omega (arith, length-map c.loop-c.least g.N.Number.value)) }
