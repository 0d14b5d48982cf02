use Rattle.std.proofs.Common.{◌∙◌, ap, refl, subst, sym}
use Rattle.tuple_space.specs.Entries.{EntriesValue}
use Rattle.tuple_space.specs.Entry.{is_held_by}
use Rattle.tuple_space.specs.Space.{held_by}
use Rattle.tuple_space.proofs.OrderLemmas.{held_there, not_in, written_if}
use Rattle.tuple_space.proofs.RowLemmas.{HasNone, changed_none}
use Rattle.tuple_space.proofs.entries.Entries.hold.Goals as goal

pub returns-in_default-clause-ok : goal.returns-in_default-clause-ok
returns-in_default-clause-ok c =
    let none = not_in c.args.number c.self.inside.places.entries c.self.invariant (sym c.in_default.ensures.index) in
    sym (changed_none c.args.number (held_by c.args.holder c.args.taken) c.args.self.now.items (subst (HasNone c.args.number) (ap (λ (v : EntriesValue). v.items) c.self.view_is) none))

pub invariant_of-self : goal.invariant_of-self
invariant_of-self c =
    (written_if c.self.inside.places.entries c.args.self.now.items c.args.number c.in-Some.index c.in-Some-get_index_mut.place.now c.self.invariant (ap (λ (v : EntriesValue). v.items) c.self.view_is)
    (sym c.in-Some.ensures.index) (sym c.in-Some-get_index_mut.ensures.value) c.hold_in.result c.hold_in.new.place (held_by c.args.holder c.args.taken) (λ e. refl) c.hold_in.ensures.ok c.hold_in.ensures.err).0

pub returns-clause-ok : goal.returns-clause-ok
returns-clause-ok c =
    (written_if c.self.inside.places.entries c.args.self.now.items c.args.number c.in-Some.index c.in-Some-get_index_mut.place.now c.self.invariant (ap (λ (v : EntriesValue). v.items) c.self.view_is)
    (sym c.in-Some.ensures.index) (sym c.in-Some-get_index_mut.ensures.value) c.hold_in.result c.hold_in.new.place (held_by c.args.holder c.args.taken) (λ e. refl) c.hold_in.ensures.ok c.hold_in.ensures.err).1

pub returns-clause-err : goal.returns-clause-err
returns-clause-err c =
    (written_if c.self.inside.places.entries c.args.self.now.items c.args.number c.in-Some.index c.in-Some-get_index_mut.place.now c.self.invariant (ap (λ (v : EntriesValue). v.items) c.self.view_is)
    (sym c.in-Some.ensures.index) (sym c.in-Some-get_index_mut.ensures.value) c.hold_in.result c.hold_in.new.place (held_by c.args.holder c.args.taken) (λ e. refl) c.hold_in.ensures.ok c.hold_in.ensures.err).2

pub returns-clause-ready : goal.returns-clause-ready
returns-clause-ready c = λ held.
    c.hold_in.ensures.ready (sym (held_there c.self.inside.places.entries c.args.self.now.items c.args.number c.in-Some.index c.in-Some-get_index_mut.place.now c.self.invariant
    (ap (λ (v : EntriesValue). v.items) c.self.view_is) (sym c.in-Some.ensures.index) (sym c.in-Some-get_index_mut.ensures.value) (is_held_by c.args.holder)) ∙ held)
