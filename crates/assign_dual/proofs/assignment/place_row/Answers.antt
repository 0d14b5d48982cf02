use Rattle.std.proofs.Common.{◌<◌, ◌+◌, ℕ, List, ap, subst, sym, get_or, length, map, arith}
use Rattle.std.specs.Prelude.{Option}
use Rattle.std.proofs.lemmas.List.{length-map}
use Rattle.assign_dual.proofs.Ranges.{OwnersDiffer-from, u_within, v_within}
use Rattle.assign_dual.proofs.Placing.{tree_rows-within, tree_rows-differ, row_distances-within, IsPath-tree, IsPartial-placed}
use Rattle.assign_dual.specs.Square.{square_of}
use Rattle.assign_dual.specs.Steps.{Augments, IsPath, LowersColumns, RaisesRows}
use Rattle.assign_dual.proofs.Values.{value_read, value_within}
use Rattle.assign_dual.proofs.assignment.place_row.Goals as goal

pub grow-done-requires-clause-owners : goal.grow-done-requires-clause-owners
grow-done-requires-clause-owners g c = OwnersDiffer-from _ _ _ _ c.requires.placed.matches

pub grow-done-requires-clause-u_range : goal.grow-done-requires-clause-u_range
grow-done-requires-clause-u_range g c = u_within _ _ _ _ _ _ _ c.requires.placed c.requires.entries

pub grow-done-requires-clause-v_range : goal.grow-done-requires-clause-v_range
grow-done-requires-clause-v_range g c = v_within _ _ _ _ _ _ _ (omega (arith, c.requires.root_below)) c.requires.placed c.requires.entries

pub raise_rows-requires-clause-within : goal.raise_rows-requires-clause-within
raise_rows-requires-clause-within g c =
    λ p h.
    let at_most = tree_rows-within _ _ _ _ _ _ _ _ _ _ _ c.grow-done.ensures.tree (OwnersDiffer-from _ _ _ _ c.requires.placed.matches) c.grow-done.ensures.left p h in
    omega (arith, at_most, c.requires.root_below, c.requires.placed.fits.u_count, length-map c.args.room.now.u.now g.N.Number.value, ap length c.grow-done.ensures.u)

pub raise_rows-requires-clause-distinct : goal.raise_rows-requires-clause-distinct
raise_rows-requires-clause-distinct g c =
    tree_rows-differ _ _ _ _ _ _ _ _ _ _ _ c.grow-done.ensures.tree (OwnersDiffer-from _ _ _ _ c.requires.placed.matches) c.grow-done.ensures.left

pub raise_rows-requires-clause-u_range : goal.raise_rows-requires-clause-u_range
raise_rows-requires-clause-u_range g c = rw c.grow-done.ensures.u (u_within _ _ _ _ _ _ _ c.requires.placed c.requires.entries)

pub raise_rows-requires-clause-row_distances_range : goal.raise_rows-requires-clause-row_distances_range
raise_rows-requires-clause-row_distances_range g c =
    row_distances-within _ _ _ _ _ _ _ _ _ _ _ _ c.grow-done.ensures.tree c.grow-done.ensures.left c.grow-done.ensures.distances_range

pub raise_rows-requires-clause-path_range : goal.raise_rows-requires-clause-path_range
raise_rows-requires-clause-path_range g c =
    let tree = c.grow-done.ensures.tree in
    let within = tree.order.within c.grow-done.result (omega (arith, tree.columns_count, c.grow-done.ensures.left)) in
    value_within _ _ _ _ _ c.grow-done.ensures.distances_range c.index-distances-columns.is
    (omega (arith, within, tree.columns_count, tree.distances_count, length-map c.grow-done.new.room.distances.now g.N.Number.value))

pub lower_columns-requires-clause-v_range : goal.lower_columns-requires-clause-v_range
lower_columns-requires-clause-v_range g c = rw c.grow-done.ensures.v (v_within _ _ _ _ _ _ _ (omega (arith, c.requires.root_below)) c.requires.placed c.requires.entries)

pub augment-requires-clause-small : goal.augment-requires-clause-small
augment-requires-clause-small g c =
    omega (arith, c.grow-done.ensures.tree.columns_count, c.requires.is_matrix.small)

pub augment-requires-clause-path : goal.augment-requires-clause-path
augment-requires-clause-path g c =
    let room = c.grow-done.new.room in
    subst (λ (row_of : List (Option ℕ)). IsPath room.columns.now room.tree_rows.now room.origins.now c.grow-done.result row_of) (sym c.grow-done.ensures.row_of)
    (IsPath-tree _ _ _ _ _ _ _ _ _ _ _ c.grow-done.ensures.tree c.grow-done.ensures.left c.grow-done.ensures.free)

pub returns-clause-placed : goal.returns-clause-placed
returns-clause-placed g c =
    let value = g.N.Number.value in
    let placed = c.requires.placed in
    let tree = c.grow-done.ensures.tree in
    let left : c.grow-done.result < c.args.n = c.grow-done.ensures.left in
    let distances = c.grow-done.new.room.distances.now in
    let k = get_or c.grow-done.new.room.columns.now c.grow-done.result 0 in
    let k_within : k < length c.grow-done.new.room.columns.now = tree.order.within c.grow-done.result (omega (arith, tree.columns_count)) in
    let k_distance : k < length distances = omega (arith, tree.columns_count, tree.distances_count, length-map distances value) in
    let room = c.grow-done.new.room in
    let M = square_of c.args.n (map value c.args.entries.now) in
    let raises : RaisesRows room.tree_rows.now (map value room.row_distances.now) (c.grow-done.result + 1) (value c.index-distances-columns.result) (map value c.args.room.now.u.now) (map value c.raise_rows.new.u) =
    rw (← c.grow-done.ensures.u) c.raise_rows.ensures in
    let lowers : LowersColumns room.columns.now (map value distances) c.grow-done.result (value c.index-distances-columns.result) (map value c.args.room.now.v.now) (map value c.lower_columns.new.v) =
    rw (← c.grow-done.ensures.v) c.lower_columns.ensures in
    let augments : Augments (get_or room.tree_rows.now 0 0) room.columns.now room.tree_rows.now room.origins.now c.grow-done.result c.args.matching.now c.augment.new.matching c.args.room.now.row_of.now c.augment.new.row_of =
    rw (← c.grow-done.ensures.row_of) c.augment.ensures.moves in
    IsPartial-placed M _ _ _ _ _ _ _ _ _ _ _ _ _ _ _ _
    (record {
      before = placed;
      below = c.requires.root_below;
      left = left;
      tree = tree;
      next = c.grow-done.ensures.next;
      free = c.grow-done.ensures.free;
      path_is = value_read value distances k _ c.index-distances-columns.is k_distance;
      u_count = omega (arith, placed.fits.u_count, length-map c.args.room.now.u.now value, length-map c.raise_rows.new.u value, ap length c.grow-done.ensures.u);
      v_count = omega (arith, placed.fits.v_count, length-map c.args.room.now.v.now value, length-map c.lower_columns.new.v value, ap length c.grow-done.ensures.v);
      raises = raises;
      lowers = lowers;
    })
    (OwnersDiffer-from _ _ _ _ placed.matches) c.augment.ensures.matches augments
