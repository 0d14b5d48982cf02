use Rattle.node_split.proofs.Bounds.{marks_are}
use Rattle.node_split.proofs.node_split.choose.Goals as goal

pub returns-clause-images : goal.returns-clause-images
returns-clause-images c =
    marks_are c.args.parent.now.instance.now c.args.parent.now.node.now (record { facilities = c.mark_images.new.marks; locations = c.mark_images-2.new.marks; fixing = c.mark_images-2.new.fixing }) c.widest-branch.result c.in_ok-mark_images.ensures c.in_ok-mark_images-2.ensures
