use Rattle.std.proofs.Common.{◌+◌, ◌<◌, get_or, length, map, set, ap, ◌∙◌, ◌≡◌, arith}
use Rattle.std.proofs.lemmas.Int.{ints}
use Rattle.std.proofs.lemmas.List.{length-map, map-set}
use Rattle.assign_dual.proofs.Trees.{room, row_within, IsTree-start, StartsRow-within, IsTree-chosen, IsTree-joined, Relaxes-within}
use Rattle.assign_dual.proofs.Values.{value_read, value_within}
use Rattle.assign_dual.proofs.tree.grow.Goals as goal

pub start_row-requires-clause-row_range : goal.start_row-requires-clause-row_range
start_row-requires-clause-row_range g c = row_within _ _ _ _ c.requires.entries c.requires.root_below c.row_at.ensures

pub loop-columns-init : goal.loop-columns-init
loop-columns-init g c =
    let value = g.N.Number.value in
    let room = c.args.room.now in
    let given = c.requires.room in
    let distances = map value c.start_row.new.distances in
    let left : 0 < c.args.n = omega (arith, c.requires.root_below) in
    let root_distance = map-set value room.row_distances.now 0 c.narrow.result ∙ ap (λ z. set (map value room.row_distances.now) 0 z) c.narrow.ensures in
    let distances_count : length distances ≡ c.args.n = length-map c.start_row.new.distances value ∙ omega (arith, given.distances_count) in
    record {
      left = left;
      tree = rw root_distance
          (IsTree-chosen _ _ _ _ _ _ _ _ _ _ _ _
          (IsTree-start _ _ _ _ _ _ _ _ _ _ (map value c.row_at.result.now) given.order given.columns_count given.tree_rows_count (length-map room.row_distances.now value ∙ given.row_distances_count)
          distances_count (omega (arith, given.origins_count)) c.requires.root_below c.requires.fits c.row_at.ensures c.start_row.ensures)
          c.choose.ensures.order (omega arith) c.choose.ensures.scanned);
      next = c.choose.ensures.next;
      distances_range = StartsRow-within _ _ _ _ _ c.start_row.ensures
          (omega (arith, distances_count, c.row_at.ensures.count)) (omega (arith, c.requires.fits.v_count, c.row_at.ensures.count))
          (row_within _ _ _ _ c.requires.entries c.requires.root_below c.row_at.ensures) c.requires.v_range;
    }

pub bounds-tree_rows-done : goal.bounds-tree_rows-done
bounds-tree_rows-done g c =
    let more : c.loop-columns.done + 1 < c.args.n =
    room _ _ _ _ _ _ _ _ _ _ _ _ c.loop-columns.invariant.tree c.requires.owners c.requires.root_below c.requires.row_of_count c.loop-columns.invariant.left c.in-Some.is in
    omega (arith, c.loop-columns.invariant.tree.tree_rows_count)

pub bounds-row_distances-done : goal.bounds-row_distances-done
bounds-row_distances-done g c =
    let more : c.loop-columns.done + 1 < c.args.n =
    room _ _ _ _ _ _ _ _ _ _ _ _ c.loop-columns.invariant.tree c.requires.owners c.requires.root_below c.requires.row_of_count c.loop-columns.invariant.left c.in-Some.is in
    omega (arith, c.loop-columns.invariant.tree.row_distances_count, length-map c.loop-columns.row_distances g.N.Number.value)

pub base-requires-clause-distance : goal.base-requires-clause-distance
base-requires-clause-distance g c =
    let value = g.N.Number.value in
    let tree = c.loop-columns.invariant.tree in
    let left : c.loop-columns.done < c.args.n = c.loop-columns.invariant.left in
    let k = get_or c.loop-columns.columns c.loop-columns.done 0 in
    let k_within : k < length c.loop-columns.columns = tree.order.within c.loop-columns.done (omega (arith, tree.columns_count)) in
    let less : c.in-Some.row < c.args.root = c.requires.owners.within k c.in-Some.row (omega (arith, tree.columns_count)) c.in-Some.is in
    let root_below : c.args.root < c.args.n = c.requires.root_below in
    let distances_count = length-map c.loop-columns.distances value in
    let k_distance : k < length c.loop-columns.distances = omega (arith, tree.columns_count, tree.distances_count, distances_count) in
    let u_count = length-map c.args.room.now.u.now value in
    let row_dual : c.in-Some.row < length c.args.room.now.u.now = omega (arith, c.requires.fits.u_count, u_count) in
    value_within value c.loop-columns.distances k _ _ c.loop-columns.invariant.distances_range c.index-distances-columns.is k_distance

pub base-requires-clause-dual : goal.base-requires-clause-dual
base-requires-clause-dual g c =
    let value = g.N.Number.value in
    let tree = c.loop-columns.invariant.tree in
    let left : c.loop-columns.done < c.args.n = c.loop-columns.invariant.left in
    let k = get_or c.loop-columns.columns c.loop-columns.done 0 in
    let k_within : k < length c.loop-columns.columns = tree.order.within c.loop-columns.done (omega (arith, tree.columns_count)) in
    let less : c.in-Some.row < c.args.root = c.requires.owners.within k c.in-Some.row (omega (arith, tree.columns_count)) c.in-Some.is in
    let root_below : c.args.root < c.args.n = c.requires.root_below in
    let distances_count = length-map c.loop-columns.distances value in
    let k_distance : k < length c.loop-columns.distances = omega (arith, tree.columns_count, tree.distances_count, distances_count) in
    let u_count = length-map c.args.room.now.u.now value in
    let row_dual : c.in-Some.row < length c.args.room.now.u.now = omega (arith, c.requires.fits.u_count, u_count) in
    value_within value c.args.room.now.u.now c.in-Some.row _ _ c.requires.u_range c.index-u-row.is row_dual

pub relax-requires-clause-row_range : goal.relax-requires-clause-row_range
relax-requires-clause-row_range g c =
    let value = g.N.Number.value in
    let tree = c.loop-columns.invariant.tree in
    let left : c.loop-columns.done < c.args.n = c.loop-columns.invariant.left in
    let k = get_or c.loop-columns.columns c.loop-columns.done 0 in
    let k_within : k < length c.loop-columns.columns = tree.order.within c.loop-columns.done (omega (arith, tree.columns_count)) in
    let less : c.in-Some.row < c.args.root = c.requires.owners.within k c.in-Some.row (omega (arith, tree.columns_count)) c.in-Some.is in
    let root_below : c.args.root < c.args.n = c.requires.root_below in
    let distances_count = length-map c.loop-columns.distances value in
    let k_distance : k < length c.loop-columns.distances = omega (arith, tree.columns_count, tree.distances_count, distances_count) in
    let u_count = length-map c.args.room.now.u.now value in
    let row_dual : c.in-Some.row < length c.args.room.now.u.now = omega (arith, c.requires.fits.u_count, u_count) in
    row_within _ _ _ _ c.requires.entries (omega arith) c.row_at-in-Some.ensures

pub choose-requires-in-Some-clause-left : goal.choose-requires-in-Some-clause-left
choose-requires-in-Some-clause-left g c =
    let more : c.loop-columns.done + 1 < c.args.n =
    room _ _ _ _ _ _ _ _ _ _ _ _ c.loop-columns.invariant.tree c.requires.owners c.requires.root_below c.requires.row_of_count c.loop-columns.invariant.left c.in-Some.is in
    omega (arith, c.loop-columns.invariant.tree.columns_count)

pub loop-columns-preserved : goal.loop-columns-preserved
loop-columns-preserved g c =
    let more : c.loop-columns.done + 1 < c.args.n =
    room _ _ _ _ _ _ _ _ _ _ _ _ c.loop-columns.invariant.tree c.requires.owners c.requires.root_below c.requires.row_of_count c.loop-columns.invariant.left c.in-Some.is in
    let value = g.N.Number.value in
    let tree = c.loop-columns.invariant.tree in
    let left : c.loop-columns.done < c.args.n = c.loop-columns.invariant.left in
    let k = get_or c.loop-columns.columns c.loop-columns.done 0 in
    let k_within : k < length c.loop-columns.columns = tree.order.within c.loop-columns.done (omega (arith, tree.columns_count)) in
    let less : c.in-Some.row < c.args.root = c.requires.owners.within k c.in-Some.row (omega (arith, tree.columns_count)) c.in-Some.is in
    let root_below : c.args.root < c.args.n = c.requires.root_below in
    let distances_count = length-map c.loop-columns.distances value in
    let k_distance : k < length c.loop-columns.distances = omega (arith, tree.columns_count, tree.distances_count, distances_count) in
    let u_count = length-map c.args.room.now.u.now value in
    let row_dual : c.in-Some.row < length c.args.room.now.u.now = omega (arith, c.requires.fits.u_count, u_count) in
    let distance = value_read value c.loop-columns.distances k _ c.index-distances-columns.is k_distance in
    let dual = value_read value c.args.room.now.u.now c.in-Some.row _ c.index-u-row.is row_dual in
    let base = c.base.ensures.value in
    let new_distances = length-map c.relax.new.distances value in
    let joined = map-set value c.loop-columns.row_distances (c.loop-columns.done + 1) c.index-distances-columns.result in
    record {
      left = more;
      tree = rw joined
          (IsTree-chosen _ _ _ _ _ _ _ _ _ _ _ _
          (IsTree-joined _ _ _ _ _ _ _ _ _ _ _ c.in-Some.row (map value c.row_at-in-Some.result.now) _ _ _ _ tree c.loop-columns.invariant.next c.requires.fits more c.in-Some.is less c.row_at-in-Some.ensures
          distance (omega (arith, ints, distance, dual, base)) (omega (arith, tree.distances_count, distances_count, new_distances)) (omega (arith, tree.origins_count)) c.relax.ensures)
          c.choose-in-Some.ensures.order (omega arith) c.choose-in-Some.ensures.scanned);
      next = c.choose-in-Some.ensures.next;
      distances_range = Relaxes-within _ _ _ _ _ _ _ _ _ _ _ c.in-Some.row (map value c.row_at-in-Some.result.now) _ _ _ _ tree c.loop-columns.invariant.next c.requires.fits left less c.row_at-in-Some.ensures
          (omega (arith, ints, distance, dual, base)) (omega (arith, tree.distances_count, distances_count, new_distances)) c.relax.ensures c.loop-columns.invariant.distances_range;
    }
