use Rattle.std.proofs.Common.{take}
use Rattle.plan_table.specs.Scale.{IsLeastScale}
use Rattle.plan_table.proofs.scale.least_scale.Given as goal

abbrev pub invariant-loop-decimal : goal.invariant-loop-decimal
invariant-loop-decimal l = IsLeastScale (take l.decimal-index l.decimals) l.scale
