use Rattle.std.proofs.Common.{ap, subst, sym}
use Rattle.tuple_space.specs.Entries.{EntriesValue}
use Rattle.tuple_space.proofs.OrderLemmas.{emptied, found, not_in}
use Rattle.tuple_space.proofs.RowLemmas.{HasNone, find_none, without_none}
use Rattle.tuple_space.proofs.entries.Entries.take.Goals as goal

pub returns-in_default-clause-value : goal.returns-in_default-clause-value
returns-in_default-clause-value c =
    let none = not_in c.args.number c.self.inside.places.entries c.self.invariant (sym c.in_default.ensures.index) in
    find_none c.args.number c.args.self.now.items (subst (HasNone c.args.number) (ap (λ (v : EntriesValue). v.items) c.self.view_is) none)

pub returns-in_default-clause-rest : goal.returns-in_default-clause-rest
returns-in_default-clause-rest c =
    let none = not_in c.args.number c.self.inside.places.entries c.self.invariant (sym c.in_default.ensures.index) in
    sym (without_none c.args.number c.args.self.now.items (subst (HasNone c.args.number) (ap (λ (v : EntriesValue). v.items) c.self.view_is) none))

pub invariant_of-self : goal.invariant_of-self
invariant_of-self c =
    let w = emptied c.self.inside.places.entries c.args.self.now.items c.args.number c.in-Some.index c.in-Some-get_index_mut.place.now c.self.invariant (ap (λ (v : EntriesValue). v.items) c.self.view_is)
    (sym c.in-Some.ensures.index) (sym c.in-Some-get_index_mut.ensures.value) in
    rw c.take.ensures.after w.places

pub returns-clause-value : goal.returns-clause-value
returns-clause-value c =
    rw c.take.ensures.value (found c.self.inside.places.entries c.args.self.now.items c.args.number c.in-Some.index c.in-Some-get_index_mut.place.now c.self.invariant (ap (λ (v : EntriesValue). v.items) c.self.view_is)
    (sym c.in-Some.ensures.index) (sym c.in-Some-get_index_mut.ensures.value))

pub returns-clause-rest : goal.returns-clause-rest
returns-clause-rest c =
    let w = emptied c.self.inside.places.entries c.args.self.now.items c.args.number c.in-Some.index c.in-Some-get_index_mut.place.now c.self.invariant (ap (λ (v : EntriesValue). v.items) c.self.view_is)
    (sym c.in-Some.ensures.index) (sym c.in-Some-get_index_mut.ensures.value) in
    rw c.take.ensures.after w.are
