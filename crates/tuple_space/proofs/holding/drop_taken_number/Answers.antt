use Rattle.std.proofs.Common.{◌≡◌, ◌∙◌, false, true, sym}
use Rattle.tuple_space.specs.Entry.{is_taken_by}
use Rattle.tuple_space.specs.Space.{without_taken}
use Rattle.tuple_space.proofs.PartLemmas.{edited_gone, edited_kept, edited_nowhere, taken_gone, taken_stays, taking_edits}
use Rattle.tuple_space.proofs.RowLemmas.{found_at, none_found}
use Rattle.tuple_space.proofs.holding.drop_taken_number.Goals as goal

pub returns-in_default-clause-edited : goal.returns-in_default-clause-edited
returns-in_default-clause-edited c =
    let es = c.args.entries.now.items in
    let none = c.in_default.ensures in
    edited_nowhere c.args.holder (without_taken c.args.holder) (taking_edits c.args.holder) c.args.number es (none_found c.args.number es none)

pub returns-then-is_taken_by-clause-edited : goal.returns-then-is_taken_by-clause-edited
returns-then-is_taken_by-clause-edited c =
    let es = c.args.entries.now.items in
    let x = c.in-Some.entry.now in
    let found = found_at c.args.number es x c.requires.rising c.in-Some.ensures in
    let taken : is_taken_by c.args.holder x ≡ true = sym c.is_taken_by.ensures ∙ c.if-is_taken_by.true in
    c.take_number.ensures.rest ∙ edited_gone c.args.holder (without_taken c.args.holder) (taking_edits c.args.holder) c.args.number es found.place x found.only found.is (taken_gone c.args.holder x taken)

pub returns-else-is_taken_by-clause-edited : goal.returns-else-is_taken_by-clause-edited
returns-else-is_taken_by-clause-edited c =
    let es = c.args.entries.now.items in
    let x = c.in-Some.entry.now in
    let found = found_at c.args.number es x c.requires.rising c.in-Some.ensures in
    let free : is_taken_by c.args.holder x ≡ false = sym c.is_taken_by.ensures ∙ c.if-is_taken_by.false in
    edited_kept c.args.holder (without_taken c.args.holder) (taking_edits c.args.holder) c.args.number es found.place x found.only found.is (taken_stays c.args.holder x free)
