use Rattle.std.proofs.Common.{◌<◌, ◌∙◌, ap, length, set, subst, sym, true, arith}
use Rattle.std.proofs.lemmas.List.{get_or_default}
use Rattle.tuple_space.specs.Places.{items_in}
use Rattle.tuple_space.proofs.PlaceLemmas.{are_filled, items_are, none_at, places_refilled, places_set, some_at}
use Rattle.space_txn.specs.Marks.{MarksValue}
use Rattle.space_txn.specs.declared.mark.Mark.{Mark}
use Rattle.space_txn.proofs.MarkLemmas.{mark_at_place}
use Rattle.space_txn.proofs.MarkOrder.{Rises, rises_set}
use Rattle.space_txn.proofs.marks.Marks.take.Goals as goal

pub unreachable-requires : goal.unreachable-requires
unreachable-requires c =
    let places = c.self.inside.places.items in
    let same = ap (λ (v : MarksValue). length v.items) c.self.view_is in
    let within : c.args.place < length (items_in places) = omega arith in
    none_at places c.args.place c.index-deref_mut-place.result c.self.invariant.each within (rw c.deref_mut.ensures.value at c.index-deref_mut-place.is) (c.index-deref_mut-place.is ∙ c.in_default.is)

pub invariant_of-self : goal.invariant_of-self
invariant_of-self c =
    let places = c.self.inside.places.items in
    let same = ap (λ (v : MarksValue). length v.items) c.self.view_is in
    let within : c.args.place < length (items_in places) = omega arith in
    let here = some_at places c.args.place c.index-deref_mut-place.result c.in-Some.mark c.self.invariant.each within (rw c.deref_mut.ensures.value at c.index-deref_mut-place.is) (c.index-deref_mut-place.is ∙ c.in-Some.is) in
    let x : Mark = record { entry = c.in-Some.mark.entry; tuple = c.in-Some.mark.tuple; taken = true; permanent = c.args.permanent } in
    record {
      ready = c.self.invariant.ready;
      rising =
          rw (c.deref_mut.ensures.value, places_refilled places c.args.place x)
          (subst Rises (sym (items_are _ (set (items_in places) c.args.place x) (places_set places c.args.place x c.self.invariant.each)))
          (rises_set x (items_in places) c.args.place within
          (λ d. ap (λ (m : Mark). m.entry) (sym (here ∙ get_or_default (items_in places) c.args.place c.in-Some.mark d within))) c.self.invariant.rising));
      each = rw (c.deref_mut.ensures.value, places_refilled places c.args.place x) (are_filled _ (set (items_in places) c.args.place x) (places_set places c.args.place x c.self.invariant.each));
    }

pub returns : goal.returns
returns c = λ m at.
    let places = c.self.inside.places.items in
    let same = ap (λ (v : MarksValue). v.items) c.self.view_is in
    let with_taken = λ (y : Mark). record y { taken = true; permanent = c.args.permanent } in
    let x : Mark = with_taken c.in-Some.mark in
    let long = ap (λ (v : MarksValue). length v.items) c.self.view_is in
    let within : c.args.place < length (items_in places) = omega arith in
    let here = some_at places c.args.place c.index-deref_mut-place.result c.in-Some.mark c.self.invariant.each within (rw c.deref_mut.ensures.value at c.index-deref_mut-place.is) (c.index-deref_mut-place.is ∙ c.in-Some.is) in
    let this = mark_at_place (items_in places) c.args.place c.in-Some.mark m within here (rw (← same) at at) in
    rw (c.deref_mut.ensures.value, places_refilled places c.args.place x)
    (items_are _ (set (items_in places) c.args.place x) (places_set places c.args.place x c.self.invariant.each)
    ∙ ap (λ l. set l c.args.place x) same ∙ ap (λ (y : Mark). set c.args.self.now.items c.args.place (with_taken y)) this)
