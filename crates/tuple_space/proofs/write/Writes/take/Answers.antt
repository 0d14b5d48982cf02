use Rattle.std.proofs.Common.{◌<◌, ◌∙◌, Some, ap, length, sym, true, arith}
use Rattle.std.specs.Prelude.{map}
use Rattle.tuple_space.specs.declared.write.Write.{Write}
use Rattle.tuple_space.specs.Places.{items_in}
use Rattle.tuple_space.specs.Writes.{taken_at}
use Rattle.tuple_space.proofs.PlaceLemmas.{items_in-map, none_at, places_refilled, places_set, some_at}
use Rattle.tuple_space.proofs.WriteLemmas.{taken_at_place}
use Rattle.tuple_space.proofs.write.Writes.take.Goals as goal

pub unreachable-requires : goal.unreachable-requires
unreachable-requires c =
    let rows = c.self.inside.rows.items in
    let same = ap length c.self.view_is in
    let within : c.args.place < length (items_in rows) = omega arith in
    none_at rows c.args.place c.index-deref_mut-place.result c.self.invariant.each within (rw c.deref_mut.ensures.value at c.index-deref_mut-place.is) (c.index-deref_mut-place.is ∙ c.in_default.is)

pub invariant_of-self : goal.invariant_of-self
invariant_of-self c =
    let rows = c.self.inside.rows.items in
    let x : Write = record { tuple = c.in-Some.write.tuple; lease = c.in-Some.write.lease; taken = true } in
    let placed = places_set rows c.args.place x c.self.invariant.each in
    record {
      ready = c.self.invariant.ready;
      each = rw (c.deref_mut.ensures.value, places_refilled rows c.args.place x) (placed ∙ ap (map Some) (sym (ap items_in placed ∙ items_in-map _)));
    }

pub returns : goal.returns
returns c =
    let rows = c.self.inside.rows.items in
    let x : Write = record { tuple = c.in-Some.write.tuple; lease = c.in-Some.write.lease; taken = true } in
    let placed = places_set rows c.args.place x c.self.invariant.each in
    let same = ap length c.self.view_is in
    let within : c.args.place < length (items_in rows) = omega arith in
    let here = some_at rows c.args.place c.index-deref_mut-place.result c.in-Some.write c.self.invariant.each within (rw c.deref_mut.ensures.value at c.index-deref_mut-place.is) (c.index-deref_mut-place.is ∙ c.in-Some.is) in
    rw (c.deref_mut.ensures.value, places_refilled rows c.args.place x)
    (ap items_in placed ∙ items_in-map _ ∙ taken_at_place c.args.place (items_in rows) c.in-Some.write within here ∙ ap (taken_at c.args.place) c.self.view_is)
