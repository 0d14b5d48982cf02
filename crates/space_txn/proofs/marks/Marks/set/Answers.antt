use Rattle.std.proofs.Common.{◌∙◌, ap, set, subst, sym}
use Rattle.tuple_space.specs.Places.{items_in}
use Rattle.tuple_space.proofs.PlaceLemmas.{are_filled, items_are, places_refilled, places_set}
use Rattle.space_txn.specs.Marks.{MarksValue}
use Rattle.space_txn.proofs.MarkOrder.{Rises, rises_set}
use Rattle.space_txn.proofs.marks.Marks.set.Goals as goal

pub invariant_of-self : goal.invariant_of-self
invariant_of-self c =
    let places = c.self.inside.places.items in
    let mark = c.args.mark in
    record {
      ready = c.self.invariant.ready;
      rising =
          let same = ap (λ (v : MarksValue). v.items) c.self.view_is in
          rw (c.deref_mut.ensures.value, places_refilled places c.args.place mark)
          (subst Rises (sym (items_are _ (set (items_in places) c.args.place mark) (places_set places c.args.place mark c.self.invariant.each)))
          (rises_set mark (items_in places) c.args.place (rw same c.requires.within) (rw same c.requires.same) c.self.invariant.rising));
      each = rw (c.deref_mut.ensures.value, places_refilled places c.args.place mark) (are_filled _ (set (items_in places) c.args.place mark) (places_set places c.args.place mark c.self.invariant.each));
    }

pub returns : goal.returns
returns c =
    let places = c.self.inside.places.items in
    let mark = c.args.mark in
    rw (c.deref_mut.ensures.value, places_refilled places c.args.place mark)
    (items_are _ (set (items_in places) c.args.place mark) (places_set places c.args.place mark c.self.invariant.each)
    ∙ ap (λ (v : MarksValue). set v.items c.args.place mark) c.self.view_is)
