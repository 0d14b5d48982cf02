use Rattle.std.proofs.Common.{◌∙◌, ap, length, arith, map}
use Rattle.std.proofs.lemmas.List.{map-set}
use Rattle.pair_duals.specs.PairDuals.{beta_of}
use Rattle.pair_duals.specs.Shared.{beta_along}
use Rattle.pair_duals.proofs.DualRows.{BeginsDualRow-more}
use Rattle.pair_duals.proofs.child.write_betas.Goals as goal

pub loop-c-preserved : goal.loop-c-preserved
loop-c-preserved g c =
    let value = g.N.Number.value in
    let limit = g.N.Number.limits.dual in
    let m = length c.args.columns.now in
    let f = beta_along c.args.duals.now c.args.columns.now c.args.j c.args.l in
    rw (map-set value c.loop-c.list c.loop-c.c c.beta.result)
    (BeginsDualRow-more limit m f c.loop-c.c (map value c.loop-c.list) (value c.beta.result) c.loop-c.invariant (omega (arith, c.loop-c-test.true)) (c.beta.ensures.value ∙ ap (beta_of c.args.duals.now c.args.j c.args.l) c.from.ensures) c.beta.ensures.range)
