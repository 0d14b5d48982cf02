use Rattle.std.proofs.Common.{ap, refl, subst, sym}
use Rattle.tuple_space.specs.Entries.{EntriesValue}
use Rattle.tuple_space.specs.declared.entry.Entry.{Entry}
use Rattle.tuple_space.proofs.OrderLemmas.{not_in, written}
use Rattle.tuple_space.proofs.RowLemmas.{HasNone, changed_none}
use Rattle.tuple_space.proofs.entries.Entries.set_end.Goals as goal

pub returns-in_default : goal.returns-in_default
returns-in_default c =
    let none = not_in c.args.number c.self.inside.places.entries c.self.invariant (sym c.in_default.ensures.index) in
    sym (changed_none c.args.number (λ (e : Entry). record e { end = c.args.end }) c.args.self.now.items (subst (HasNone c.args.number) (ap (λ (v : EntriesValue). v.items) c.self.view_is) none))

pub invariant_of-self : goal.invariant_of-self
invariant_of-self c =
    let w = written c.self.inside.places.entries c.args.self.now.items c.args.number c.in-Some.index c.in-Some-get_index_mut.place.now c.self.invariant (ap (λ (v : EntriesValue). v.items) c.self.view_is)
    (sym c.in-Some.ensures.index) (sym c.in-Some-get_index_mut.ensures.value) (λ (e : Entry). record e { end = c.args.end }) (λ e. refl) in
    rw c.set_end_in.ensures w.places

pub returns : goal.returns
returns c =
    let w = written c.self.inside.places.entries c.args.self.now.items c.args.number c.in-Some.index c.in-Some-get_index_mut.place.now c.self.invariant (ap (λ (v : EntriesValue). v.items) c.self.view_is)
    (sym c.in-Some.ensures.index) (sym c.in-Some-get_index_mut.ensures.value) (λ (e : Entry). record e { end = c.args.end }) (λ e. refl) in
    rw c.set_end_in.ensures w.are
