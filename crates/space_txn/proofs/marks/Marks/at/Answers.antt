use Rattle.std.proofs.Common.{◌<◌, ap, length, arith}
use Rattle.tuple_space.specs.Places.{items_in}
use Rattle.tuple_space.proofs.PlaceLemmas.{none_at}
use Rattle.space_txn.specs.Marks.{MarksValue}
use Rattle.space_txn.proofs.marks.Marks.at.Goals as goal

pub unreachable-requires : goal.unreachable-requires
unreachable-requires c =
    let places = c.self.inside.places.items in
    let same = ap (λ (v : MarksValue). length v.items) c.self.view_is in
    let within : c.args.place < length (items_in places) = omega arith in
    none_at places c.args.place c.index-deref-place.result c.self.invariant.each within (rw c.deref.ensures at c.index-deref-place.is) c.in-None.is
