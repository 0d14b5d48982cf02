use Rattle.std.proofs.Common.{◌∷◌, [], ◌++◌, refl, arith, length, get_or, take, ◌∙◌}
use Rattle.std.specs.Prelude.{remove}
use Rattle.gilmore_lawler.specs.declared.side.Side.TheVariants.{Distance}
use Rattle.gilmore_lawler.proofs.ChildRows.{listed, theirs, few, from_skip, from_below, row_falls, child_more, room_for_child, child_done}
use Rattle.gilmore_lawler.proofs.Tables.{HasFactors-none}
use Rattle.gilmore_lawler.proofs.child_rows.fill_child_rows.Goals as goal

pub loop-r-init : goal.loop-r-init
loop-r-init c = record {
  count = refl;
  within = omega arith;
  rows = HasFactors-none c.args.instance.now Distance (c.args.places.now ++ get_or c.args.free.now c.args.s 0 ∷ []) (remove c.args.free.now c.args.s);
}

pub behind_gap-from-requires : goal.behind_gap-from-requires
behind_gap-from-requires c =
    omega (arith, c.loop-r-test.true, few c.args.instance.now c.args.places.now c.args.free.now c.args.rows.now c.requires.instance c.requires.known)

pub row_at-row-requires-clause-count : goal.row_at-row-requires-clause-count
row_at-row-requires-clause-count c =
    omega (arith, few c.args.instance.now c.args.places.now c.args.free.now c.args.rows.now c.requires.instance c.requires.known)

pub row_at-row-requires-clause-width : goal.row_at-row-requires-clause-width
row_at-row-requires-clause-width c =
    omega (arith, few c.args.instance.now c.args.places.now c.args.free.now c.args.rows.now c.requires.instance c.requires.known)

pub row_at-row-requires-clause-size : goal.row_at-row-requires-clause-size
row_at-row-requires-clause-size c = (theirs c.args.instance.now c.args.places.now c.args.free.now c.args.rows.now c.requires.known).size

pub row_at-row-requires-clause-inside : goal.row_at-row-requires-clause-inside
row_at-row-requires-clause-inside c =
    from_below c.args.s c.loop-r.r c.behind_gap-from.result (length c.args.free.now) c.behind_gap-from.ensures.before c.behind_gap-from.ensures.after c.loop-r-test.true

pub write_child_row-end-requires-clause-own : goal.write_child_row-end-requires-clause-own
write_child_row-end-requires-clause-own c =
    let below = from_below c.args.s c.loop-r.r c.behind_gap-from.result (length c.args.free.now) c.behind_gap-from.ensures.before c.behind_gap-from.ensures.after c.loop-r-test.true in
    ((listed c.args.instance.now c.args.places.now c.args.free.now c.args.rows.now c.requires.known).each c.behind_gap-from.result below).within

pub write_child_row-end-requires-clause-taken : goal.write_child_row-end-requires-clause-taken
write_child_row-end-requires-clause-taken c =
    ((listed c.args.instance.now c.args.places.now c.args.free.now c.args.rows.now c.requires.known).each c.args.s c.requires.place).within

pub write_child_row-end-requires-clause-linear : goal.write_child_row-end-requires-clause-linear
write_child_row-end-requires-clause-linear c = omega (arith, c.row_at-row.ensures.width, c.loop-r-test.true)

pub write_child_row-end-requires-clause-falls : goal.write_child_row-end-requires-clause-falls
write_child_row-end-requires-clause-falls c =
    let below = from_below c.args.s c.loop-r.r c.behind_gap-from.result (length c.args.free.now) c.behind_gap-from.ensures.before c.behind_gap-from.ensures.after c.loop-r-test.true in
    row_falls c.args.instance.now c.args.places.now c.args.free.now c.args.rows.now c.row_at-row.result.now c.behind_gap-from.result c.requires.known below c.row_at-row.ensures.row

pub write_child_row-end-requires-clause-room : goal.write_child_row-end-requires-clause-room
write_child_row-end-requires-clause-room c =
    room_for_child c.args.instance.now c.args.places.now c.args.free.now c.args.s c.loop-r.r c.loop-r.end c.row_at-row.result.now c.loop-r.table c.loop-r.invariant.rows c.loop-r.invariant.within c.requires.place c.loop-r-test.true
    c.row_at-row.ensures.width (c.loop-r.invariant.count ∙ c.requires.room)

pub loop-r-preserved : goal.loop-r-preserved
loop-r-preserved c =
    let below = from_below c.args.s c.loop-r.r c.behind_gap-from.result (length c.args.free.now) c.behind_gap-from.ensures.before c.behind_gap-from.ensures.after c.loop-r-test.true in
    let from = from_skip c.args.s c.loop-r.r c.behind_gap-from.result c.behind_gap-from.ensures.before c.behind_gap-from.ensures.after in
    let room = room_for_child c.args.instance.now c.args.places.now c.args.free.now c.args.s c.loop-r.r c.loop-r.end c.row_at-row.result.now c.loop-r.table c.loop-r.invariant.rows c.loop-r.invariant.within c.requires.place c.loop-r-test.true
    c.row_at-row.ensures.width (c.loop-r.invariant.count ∙ c.requires.room) in
    record {
      count = c.write_child_row-end.ensures.count ∙ c.loop-r.invariant.count;
      within = omega (arith, c.write_child_row-end.ensures.end, c.write_child_row-end.ensures.count, room);
      rows =
          child_more c.args.instance.now c.args.places.now c.args.free.now c.args.rows.now c.row_at-row.result.now (take c.loop-r.end c.loop-r.table) (take c.write_child_row-end.result c.write_child_row-end.new.numbers)
          c.args.s c.loop-r.r c.behind_gap-from.result c.requires.known c.requires.place c.loop-r-test.true below from c.row_at-row.ensures.row c.loop-r.invariant.rows c.write_child_row-end.ensures.written;
    }

pub returns-clause-rows : goal.returns-clause-rows
returns-clause-rows c =
    child_done c.args.instance.now c.args.places.now c.args.free.now c.args.rows.now (take c.loop-r.end c.loop-r.table) c.args.s c.loop-r.r c.requires.known c.requires.place
    (omega (arith, c.loop-r-test.false, c.loop-r.auto.r-end)) c.loop-r.invariant.rows
