use Rattle.std.proofs.Common.{◌≡◌, ◌∙◌, List, None, eqb, subst, sym}
use Rattle.std.specs.Prelude.{find}
use Rattle.tuple_space.specs.Index.{AreIndexed}
use Rattle.tuple_space.specs.declared.entry.Entry.{Entry}
use Rattle.tuple_space.proofs.IndexLemmas.{indexed_found}
use Rattle.tuple_space.proofs.RowLemmas.{none_found, without_none}
use Rattle.tuple_space.proofs.rows.take_number.Goals as goal

pub returns-in_err-entry-clause-indexed : goal.returns-in_err-entry-clause-indexed
returns-in_err-entry-clause-indexed c =
    let es = c.args.entries.now.items in
    let none : None ≡ find (λ (e : Entry). eqb e.number c.args.number) es = sym c.in_err-entry.was ∙ c.remove.ensures.value in
    subst (λ (l : List Entry). AreIndexed c.args.buckets.now.items l) (sym (c.remove.ensures.rest ∙ without_none c.args.number es (none_found c.args.number es none))) c.requires.indexed

pub returns-clause-indexed : goal.returns-clause-indexed
returns-clause-indexed c =
    let es = c.args.entries.now.items in
    let found = sym c.in_ok-entry.was ∙ c.remove.ensures.value in
    subst (λ (l : List Entry). AreIndexed c.drop_entry.new.buckets.items l) (sym c.remove.ensures.rest)
    (indexed_found es c.args.number c.in_ok-entry.entry c.args.buckets.now.items c.drop_entry.new.buckets.items c.requires.rising found c.drop_entry.ensures.dropped
    (c.drop_entry.ensures.once c.requires.indexed.once) c.requires.indexed)
