use Rattle.std.proofs.Common.{arith}
use Rattle.std.proofs.lemmas.Int.{ints}
use Rattle.subtree_search.proofs.Closings.{Reaches-above}
use Rattle.subtree_search.proofs.Needing.{not_above}
use Rattle.subtree_search.proofs.ground.Ground.prunes.Goals as goal

pub returns-clause-reaches : goal.returns-clause-reaches
returns-clause-reaches c = λ prunes.
    let above = c.prunes-prunes.ensures.0 prunes in
    Reaches-above c.args.self.now.instance.now c.args.self.now.duals.now c.args.self.now.step c.args.incumbent.now c.threshold.result _ c.requires.sound c.requires.incumbent c.threshold.ensures (omega (arith, ints, above))

pub returns-clause-kept : goal.returns-clause-kept
returns-clause-kept c = λ keeps.
    let most = not_above _ _ _ c.prunes-prunes.ensures.1 keeps in
    omega (arith, ints, most, c.threshold.ensures)
