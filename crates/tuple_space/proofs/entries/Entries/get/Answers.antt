use Rattle.std.proofs.Common.{◌∙◌, ap, eqb, sym}
use Rattle.std.specs.Prelude.{find}
use Rattle.tuple_space.specs.Entries.{EntriesValue}
use Rattle.tuple_space.specs.declared.entry.Entry.{Entry}
use Rattle.tuple_space.proofs.OrderLemmas.{found_in, not_found}
use Rattle.tuple_space.proofs.entries.Entries.get.Goals as goal

pub returns-in-Some : goal.returns-in-Some
returns-in-Some c =
    c.as_ref.ensures.value ∙ found_in c.args.number c.self.inside.places.entries c.in-Some.place.now c.self.invariant (sym c.in-Some.ensures.value)
    ∙ ap (λ (v : EntriesValue). find (λ (e : Entry). eqb e.number c.args.number) v.items) c.self.view_is

pub returns-in-None : goal.returns-in-None
returns-in-None c =
    not_found c.args.number c.self.inside.places.entries c.self.invariant (sym c.in-None.ensures.value)
    ∙ ap (λ (v : EntriesValue). find (λ (e : Entry). eqb e.number c.args.number) v.items) c.self.view_is
