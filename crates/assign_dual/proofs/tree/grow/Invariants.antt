use Rattle.std.proofs.Common.{◌<◌, ◌-◌, ◌*◌, map}
use Rattle.qap_cost.specs.Range.{AllWithin}
use Rattle.assign_dual.specs.Square.{square_of}
use Rattle.assign_dual.specs.Tree.{IsTree, IsNext}
use Rattle.assign_dual.proofs.tree.grow.Given as goal

abbrev pub invariant-loop-columns : goal.invariant-loop-columns
invariant-loop-columns g l =
    let value = g.N.Number.value in
    record {
      left : l.done < l.n;
      tree : IsTree (square_of l.n (map value l.entries)) l.root l.row_of (map value l.u) (map value l.v) l.columns l.tree_rows (map value l.row_distances) (map value l.distances) l.origins l.done;
      next : IsNext l.columns (map value l.distances) l.done;
      distances_range : AllWithin (3 * g.N.Number.most) (map value l.distances);
    }

abbrev pub decreases-loop-columns : goal.decreases-loop-columns
decreases-loop-columns g l = l.n - l.done
