use Rattle.subtree_search.proofs.Closings.{Reaches-whole}
use Rattle.subtree_search.proofs.Nodes.{whole_from_form}
use Rattle.subtree_search.proofs.ground.Ground.finish.Goals as goal

pub completion-requires : goal.completion-requires
completion-requires c = whole_from_form _ _ _ _ _ c.requires.node c.requires.whole

pub returns-clause-closed : goal.returns-clause-closed
returns-clause-closed c =
    Reaches-whole c.args.self.now.instance.now c.args.self.now.duals.now c.args.self.now.step c.args.path.now c.args.level.now.form c.in_ok-candidate.candidate c.offer.new.self.cost c.requires.node c.duals_law.ensures.positive c.requires.whole
    c.in_ok-candidate.ensures c.offer.ensures.offered
