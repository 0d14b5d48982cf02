use Rattle.std.proofs.Common.{refl}
use Rattle.subtree_search.specs.Lines.{column_on, row_on}
use Rattle.subtree_search.proofs.Needing.{left_by}
use Rattle.subtree_search.proofs.split.child_left.Goals as goal

pub returns-clause-left : goal.returns-clause-left
returns-clause-left g c =
    let I = c.args.task.now.ground.now.instance.now in
    let D = c.args.task.now.ground.now.duals.now in
    let line = c.args.split.now.line in
    let ensures = c.in_ok-child.ensures in
    left_by I D c.args.task.now.ground.now.step D.scale c.args.path.now c.args.split.now.level.now.form line c.args.k (row_on line c.args.k) (column_on line c.args.k) c.args.incumbent.now.cost c.try_child.new.incumbent.cost c.in_ok-child.child
    c.requires.line c.requires.k_in refl refl c.requires.kept ensures.child ensures.left
