use Rattle.std.proofs.Common.{◌≡◌, ◌∙◌, cond, eqb, false, true, refl, sym}
use Rattle.tuple_space.specs.declared.entry.Entry.{Entry}
use Rattle.tuple_space.proofs.IndexLemmas.{changed_tuple, indexed_map}
use Rattle.tuple_space.specs.Entry.{unheld}
use Rattle.tuple_space.specs.Space.{released, stays_without}
use Rattle.tuple_space.proofs.PartLemmas.{edited_changed, edited_gone, edited_nowhere, release_edits, released_gone, released_stays}
use Rattle.tuple_space.proofs.RowLemmas.{changed_number, found_at, none_found}
use Rattle.tuple_space.proofs.holding.release_number.Goals as goal

pub returns-in_default-clause-edited : goal.returns-in_default-clause-edited
returns-in_default-clause-edited c =
    let es = c.args.entries.now.items in
    let none = c.in_default.ensures in
    edited_nowhere c.args.holder (released c.args.holder c.args.moment) (release_edits c.args.holder c.args.moment) c.args.number es (none_found c.args.number es none)

pub returns-then-stays_without-clause-edited : goal.returns-then-stays_without-clause-edited
returns-then-stays_without-clause-edited c =
    let es = c.args.entries.now.items in
    let x = c.in-Some.entry.now in
    let found = found_at c.args.number es x c.requires.rising c.in-Some.ensures in
    let stays : stays_without c.args.holder c.args.moment x ≡ true = sym c.stays_without.ensures ∙ c.if-stays_without.true in
    c.release.ensures ∙ edited_changed c.args.holder (released c.args.holder c.args.moment) (release_edits c.args.holder c.args.moment) c.args.number es found.place x (unheld c.args.holder) found.only found.is
    (released_stays c.args.holder c.args.moment x stays)

pub returns-then-stays_without-clause-indexed : goal.returns-then-stays_without-clause-indexed
returns-then-stays_without-clause-indexed c =
    let n = c.args.number in
    let change = unheld c.args.holder in
    rw c.release.ensures
    (indexed_map (λ (e : Entry). cond (eqb e.number n) (change e) e) (changed_number n change (λ e. refl)) (changed_tuple n change (λ e. refl)) c.args.buckets.now.items c.args.entries.now.items c.requires.indexed)

pub returns-else-stays_without-clause-edited : goal.returns-else-stays_without-clause-edited
returns-else-stays_without-clause-edited c =
    let es = c.args.entries.now.items in
    let x = c.in-Some.entry.now in
    let found = found_at c.args.number es x c.requires.rising c.in-Some.ensures in
    let goes : stays_without c.args.holder c.args.moment x ≡ false = sym c.stays_without.ensures ∙ c.if-stays_without.false in
    c.take_number.ensures.rest ∙ edited_gone c.args.holder (released c.args.holder c.args.moment) (release_edits c.args.holder c.args.moment) c.args.number es found.place x found.only found.is
    (released_gone c.args.holder c.args.moment x goes)
