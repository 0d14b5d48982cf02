use Rattle.std.proofs.Common.{◌≡◌, ◌++◌, ◌∷◌, [], arith, pos, rules}
use Rattle.plan_table.proofs.Scaling.{AreScaled-more}
use Rattle.plan_table.proofs.scale.scaled_entries.Goals as goal

pub loop-i-preserved : goal.loop-i-preserved
loop-i-preserved c =
    let pushed : c.push.new.self.items ≡ c.loop-i.entries.items ++ c.in-Some.entry ∷ [] = search rules in
    let told = c.in-Some.ensures in
    AreScaled-more c.args.scale c.args.decimals.now c.loop-i.i (record { number = pos 0; places = 0 }) c.loop-i.entries.items c.push.new.self.items c.in-Some.entry (omega arith) c.loop-i.invariant told.0 told.1 pushed
