use Rattle.std.proofs.Common.{take}
use Rattle.plan_table.specs.Scale.{AreScaled}
use Rattle.plan_table.proofs.scale.scaled_entries.Given as goal

abbrev pub invariant-loop-i : goal.invariant-loop-i
invariant-loop-i l = AreScaled l.scale (take l.i l.decimals) l.entries.items
