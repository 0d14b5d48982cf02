use Rattle.std.proofs.Common.{◌∙◌, sym}
use Rattle.tuple_space.specs.Entry.{is_shared}
use Rattle.tuple_space.proofs.RowLemmas.{any_none, any_place, found_at, none_found}
use Rattle.tuple_space.proofs.holding.is_shared.Goals as goal

pub returns-in-Some : goal.returns-in-Some
returns-in-Some c =
    let es = c.args.entries.now.items in
    let found = found_at c.args.number es c.in-Some.entry.now c.requires c.in-Some.ensures in
    c.is_entry_shared.ensures ∙ sym (any_place c.args.number (is_shared c.args.holder) es found.place c.in-Some.entry.now found.only found.is)

pub returns-in-None : goal.returns-in-None
returns-in-None c =
    let es = c.args.entries.now.items in
    sym (any_none c.args.number (is_shared c.args.holder) es (none_found c.args.number es c.in-None.ensures))
