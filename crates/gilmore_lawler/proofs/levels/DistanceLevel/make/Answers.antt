use Rattle.std.proofs.Common.{subst, List, ℕ}
use Rattle.gilmore_lawler.specs.FlowRows.{HasDistanceRows}
use Rattle.gilmore_lawler.proofs.levels.DistanceLevel.make.Goals as goal

pub returns-then-is_at-clause-made : goal.returns-then-is_at-clause-made
returns-then-is_at-clause-made c =
    let told = c.is_at.ensures c.if-is_at.true in
    subst (λ (places : List ℕ). HasDistanceRows c.args.ranked.now places c.args.self.now.known.rows.items) told.1
    (c.requires.kept.are_theirs told.0).are_theirs
