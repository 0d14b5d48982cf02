use Rattle.std.proofs.Common.{◌∙◌, ap, subst, sym, arith}
use Rattle.std.specs.Prelude.{insert}
use Rattle.tuple_space.specs.Places.{items_in}
use Rattle.tuple_space.proofs.PlaceLemmas.{are_filled, items_are, places_insert}
use Rattle.space_txn.specs.Marks.{MarksValue}
use Rattle.space_txn.proofs.MarkOrder.{Rises, rises_insert}
use Rattle.space_txn.proofs.marks.Marks.insert.Goals as goal

pub invariant_of-self : goal.invariant_of-self
invariant_of-self c =
    let places = c.self.inside.places.items in
    let put = rw c.unwrap.ensures at c.insert.ensures.ok in
    record {
      ready = omega (arith, c.self.invariant.ready, c.insert.ensures.capacity);
      rising =
          let same = ap (λ (v : MarksValue). v.items) c.self.view_is in
          subst Rises (sym (items_are _ (insert (items_in places) c.args.place c.args.mark) (put ∙ places_insert places c.args.place c.args.mark c.self.invariant.each)))
          (rises_insert c.args.mark (items_in places) c.args.place (rw same c.requires.within) (rw same c.requires.before) (rw same c.requires.above) c.self.invariant.rising);
      each = are_filled _ (insert (items_in places) c.args.place c.args.mark) (put ∙ places_insert places c.args.place c.args.mark c.self.invariant.each);
    }

pub returns : goal.returns
returns c =
    let places = c.self.inside.places.items in
    let put = rw c.unwrap.ensures at c.insert.ensures.ok in
    items_are _ (insert (items_in places) c.args.place c.args.mark) (put ∙ places_insert places c.args.place c.args.mark c.self.invariant.each)
    ∙ ap (λ (v : MarksValue). insert v.items c.args.place c.args.mark) c.self.view_is
