use Rattle.std.proofs.Common.{◌∙◌, sym}
use Rattle.tuple_space.proofs.IndexLemmas.{unwanted_at, unwanted_none}
use Rattle.tuple_space.proofs.RowLemmas.{found_at, found_stands, none_found}
use Rattle.tuple_space.proofs.search.entry_if_wanted.Goals as goal

pub returns-in_err-entry-clause-none : goal.returns-in_err-entry-clause-none
returns-in_err-entry-clause-none c =
    let es = c.args.entries.now.items in
    let none = c.in_err-entry.ensures in
    rw c.from_residual.ensures (unwanted_none c.args.wanted c.args.moment c.args.template.now es c.args.number (none_found c.args.number es none))

pub returns-then-not-is_wanted-clause-none : goal.returns-then-not-is_wanted-clause-none
returns-then-not-is_wanted-clause-none c =
    let es = c.args.entries.now.items in
    let x = c.in_ok-entry.entry.now in
    let found = found_at c.args.number es x c.requires c.in_ok-entry.ensures in
    unwanted_at c.args.wanted c.args.moment c.args.template.now es c.args.number found.place x c.requires found.only.within found.only.here found.is (sym c.is_wanted.ensures ∙ c.if-not-is_wanted.true)

pub returns-clause-stands : goal.returns-clause-stands
returns-clause-stands c =
    let es = c.args.entries.now.items in
    let x = c.in_ok-entry.entry.now in
    found_stands c.args.number es x (found_at c.args.number es x c.requires c.in_ok-entry.ensures)
