-- The trees before have been written.
use Rattle.std.proofs.Common.{take}
use Rattle.qap_cert.specs.Text.{trees_text}
use Rattle.qap_cert.specs.Tree.{nodes_of}
use Rattle.qap_cert.specs.declared.version.Version.TheVariants.{Second}
use Rattle.qap_lines.specs.Writing.{HasWritten}
use Rattle.qap_cert.proofs.writing.+writing.Given as goal

abbrev pub invariant-write_trees-loop-tree : goal.invariant-write_trees-loop-tree
invariant-write_trees-loop-tree g l =
    HasWritten g.W.Write.contents l.initial.writer l.writer (trees_text Second (nodes_of (take l.tree-index l.trees)))
