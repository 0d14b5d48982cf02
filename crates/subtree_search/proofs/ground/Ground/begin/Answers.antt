use Rattle.subtree_search.proofs.Nodes.{IsNode-start}
use Rattle.subtree_search.proofs.ground.Ground.begin.Goals as goal

pub returns-clause-node : goal.returns-clause-node
returns-clause-node c =
    IsNode-start c.args.self.now.instance.now c.args.self.now.duals.now c.args.self.now.step c.args.node.now c.start.new.self c.start-2.new.self c.in_ok-start.ensures c.placement_law.ensures c.requires.size c.requires.sound c.in_ok-start-2.ensures.form
