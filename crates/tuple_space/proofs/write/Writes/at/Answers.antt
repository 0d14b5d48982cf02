use Rattle.std.proofs.Common.{◌<◌, ap, length, arith}
use Rattle.tuple_space.specs.Places.{items_in}
use Rattle.tuple_space.proofs.PlaceLemmas.{none_at}
use Rattle.tuple_space.proofs.write.Writes.at.Goals as goal

pub unreachable-requires : goal.unreachable-requires
unreachable-requires c =
    let rows = c.self.inside.rows.items in
    let same = ap length c.self.view_is in
    let within : c.args.place < length (items_in rows) = omega arith in
    none_at rows c.args.place c.index-deref-place.result c.self.invariant.each within (rw c.deref.ensures at c.index-deref-place.is) c.in-None.is
