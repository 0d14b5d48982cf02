use Rattle.std.proofs.Common.{arith}
use Rattle.std.proofs.lemmas.Int.{ints}
use Rattle.node_split.proofs.Bounds.{IsClosed-value}
use Rattle.node_split.proofs.Exact.{reads}
use Rattle.node_split.proofs.node_split.Workspace.bound.Goals as goal

pub returns-clause-closed : goal.returns-clause-closed
returns-clause-closed c =
    let e = c.evaluate.new.made in
    let done = c.in_ok-evaluate.ensures in
    let range = done.evaluated.range.value in
    let same = reads e.value (omega (arith, range)) in
    IsClosed-value c.args.self.now.evaluator.rows c.args.node.now e _ done.placement c.requires done.evaluated (omega (arith, ints, same))
