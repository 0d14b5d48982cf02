use Rattle.std.proofs.Common.{◌∙◌, ◌++◌, ◌∷◌, [], ap, subst, sym}
use Rattle.tuple_space.specs.Entries.{AreInPlaces, EntriesValue}
use Rattle.tuple_space.proofs.OrderLemmas.{entries_of, pushed}
use Rattle.tuple_space.proofs.entries.Entries.push.Goals as goal

pub invariant_of-self : goal.invariant_of-self
invariant_of-self c =
    let is = rw c.unwrap.ensures at c.insert.ensures.entries in
    subst AreInPlaces (sym is) (pushed c.make_way-self-inside.new.places.entries c.args.entry c.make_way-self-inside.ensures.places c.make_way-self-inside.ensures.above).places

pub returns-clause-items : goal.returns-clause-items
returns-clause-items c =
    let is = rw c.unwrap.ensures at c.insert.ensures.entries in
    ap entries_of is ∙ (pushed c.make_way-self-inside.new.places.entries c.args.entry c.make_way-self-inside.ensures.places c.make_way-self-inside.ensures.above).are
    ∙ ap (λ l. l ++ c.args.entry ∷ []) (c.make_way-self-inside.ensures.items ∙ ap (λ (v : EntriesValue). v.items) c.self.view_is)
