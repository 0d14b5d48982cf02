use Rattle.std.proofs.Common.{◌∙◌, ap, eqb, sym}
use Rattle.std.specs.Prelude.{find}
use Rattle.tuple_space.specs.Entries.{EntriesValue}
use Rattle.tuple_space.specs.declared.entry.Entry.{Entry}
use Rattle.tuple_space.proofs.OrderLemmas.{found_in}
use Rattle.tuple_space.proofs.entries.Entries.get_shifted.Goals as goal

pub returns-in-Some : goal.returns-in-Some
returns-in-Some c =
    c.as_ref.ensures.value ∙ found_in c.args.number c.self.inside.places.entries c.in-Some.place.now c.self.invariant (sym c.in-Some.ensures)
    ∙ ap (λ (v : EntriesValue). find (λ (e : Entry). eqb e.number c.args.number) v.items) c.self.view_is
