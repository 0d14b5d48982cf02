use Rattle.std.proofs.Common.{arith, pos}
use Rattle.plan_table.proofs.Scaling.{IsLeastScale-more}
use Rattle.plan_table.proofs.scale.least_scale.Goals as goal

pub loop-decimal-preserved : goal.loop-decimal-preserved
loop-decimal-preserved c =
    let larger = c.max-scale.ensures in
    IsLeastScale-more c.args.decimals.now c.loop-decimal.decimal-index c.loop-decimal.scale c.max-scale.result (record { number = pos 0; places = 0 }) c.loop-decimal-test.true c.loop-decimal.invariant (omega arith) (omega arith) (λ t own before. omega arith)
