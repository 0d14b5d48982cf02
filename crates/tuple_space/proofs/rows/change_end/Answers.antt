use Rattle.std.proofs.Common.{◌∙◌, refl, sym}
use Rattle.tuple_space.specs.declared.entry.Entry.{Entry}
use Rattle.tuple_space.specs.Lease.{is_live}
use Rattle.tuple_space.specs.Rows.{with_end}
use Rattle.tuple_space.proofs.RowLemmas.{any_none, any_place, changed_alike, found_at, none_found}
use Rattle.tuple_space.proofs.rows.change_end.Goals as goal

pub returns-in_default-clause-is_live : goal.returns-in_default-clause-is_live
returns-in_default-clause-is_live c =
    let es = c.args.entries.now.items in
    let none = c.in_default.ensures in
    sym (any_none c.args.number (λ (e : Entry). is_live c.args.moment e.end) es (none_found c.args.number es none))

pub returns-then-not-is_live-clause-is_live : goal.returns-then-not-is_live-clause-is_live
returns-then-not-is_live-clause-is_live c =
    let es = c.args.entries.now.items in
    let x = c.in-Some.entry.now in
    let found = found_at c.args.number es x c.requires c.in-Some.ensures in
    c.if-not-is_live.ensures ∙ sym (any_place c.args.number (λ (e : Entry). is_live c.args.moment e.end) es found.place x found.only found.is)

pub returns-clause-is_live : goal.returns-clause-is_live
returns-clause-is_live c =
    let es = c.args.entries.now.items in
    let x = c.in-Some.entry.now in
    let found = found_at c.args.number es x c.requires c.in-Some.ensures in
    c.if-not-is_live.ensures ∙ sym (any_place c.args.number (λ (e : Entry). is_live c.args.moment e.end) es found.place x found.only found.is)

pub returns-clause-changed : goal.returns-clause-changed
returns-clause-changed c =
    let es = c.args.entries.now.items in
    let x = c.in-Some.entry.now in
    let found = found_at c.args.number es x c.requires c.in-Some.ensures in
    c.set_end.ensures ∙ rw c.later-later.ensures (changed_alike c.args.number _ (with_end c.args.end) es found.place x found.only found.is refl)
