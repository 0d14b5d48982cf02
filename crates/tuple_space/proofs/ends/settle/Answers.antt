use Rattle.std.proofs.Common.{◌≡◌, ◌∙◌, ap, eqb, false, get_or, not, refl, sym, inr}
use Rattle.std.specs.Prelude.{filter}
use Rattle.tuple_space.specs.Ends.{IsWatched}
use Rattle.tuple_space.specs.Entry.{is_held, is_there}
use Rattle.tuple_space.specs.Lease.{is_live}
use Rattle.tuple_space.specs.declared.entry.Entry.{Entry}
use Rattle.tuple_space.proofs.EndLemmas.{all_others, all_with, all_without, come_noted, kept_noted, kept_without, noted, there_held, watched_kept}
use Rattle.tuple_space.proofs.RowLemmas.{found_at, none_found, rising_filter}
use Rattle.tuple_space.proofs.ends.settle.Goals as goal

pub returns-in_default-clause-watched : goal.returns-in_default-clause-watched
returns-in_default-clause-watched c =
    let es = c.args.entries.now.items in
    all_others (IsWatched c.args.ends.now.rows c.args.moment) c.args.number es (none_found c.args.number es c.in_default.ensures) c.requires.others

pub returns-then-not-is_there-clause-rising : goal.returns-then-not-is_there-clause-rising
returns-then-not-is_there-clause-rising c =
    rw c.take_number.ensures.rest (rising_filter (λ (e : Entry). not (eqb e.number c.args.number)) c.args.entries.now.items c.requires.rising)

pub returns-then-not-is_there-clause-watched : goal.returns-then-not-is_there-clause-watched
returns-then-not-is_there-clause-watched c =
    rw c.take_number.ensures.rest (all_without (IsWatched c.args.ends.now.rows c.args.moment) c.args.number c.args.entries.now.items c.requires.others)

pub returns-then-not-is_there-clause-there : goal.returns-then-not-is_there-clause-there
returns-then-not-is_there-clause-there c =
    let es = c.args.entries.now.items in
    let x = c.in-Some.entry.now in
    let found = found_at c.args.number es x c.requires.rising c.in-Some.ensures in
    let P : Entry → Type 0 = λ e. e.number ≡ c.args.number → is_there c.args.moment e ≡ false in
    ap (filter (is_there c.args.moment)) c.take_number.ensures.rest
    ∙ kept_without (is_there c.args.moment) c.args.number es (all_with P c.args.number es found.place x found.only found.is (λ own. sym c.if-not-is_there.ensures) (λ k d lt other own. absurd (other own)))

pub returns-then-is_live-clause-watched : goal.returns-then-is_live-clause-watched
returns-then-is_live-clause-watched c =
    let es = c.args.entries.now.items in
    let x = c.in-Some.entry.now in
    let rows = c.args.ends.now.rows in
    let new = c.note.new.self.rows in
    let found = found_at c.args.number es x c.requires.rising c.in-Some.ensures in
    let put = rw c.unwrap.ensures at c.note.ensures.ok in
    all_with (IsWatched new c.args.moment) c.args.number es found.place x found.only found.is
    (noted x.end c.args.number c.args.moment rows new put x found.own refl)
    (λ k d lt other. watched_kept rows new c.args.moment (get_or es k d) (kept_noted x.end c.args.number rows new put (get_or es k d)) (c.requires.others k d lt other))

pub returns-then-is_live-clause-come : goal.returns-then-is_live-clause-come
returns-then-is_live-clause-come c =
    let x = c.in-Some.entry.now in
    let put = rw c.unwrap.ensures at c.note.ensures.ok in
    come_noted c.args.moment x.end c.args.number c.args.ends.now.rows c.note.new.self.rows (sym c.if-is_live.ensures) put

pub returns-else-is_live-clause-watched : goal.returns-else-is_live-clause-watched
returns-else-is_live-clause-watched c =
    let es = c.args.entries.now.items in
    let x = c.in-Some.entry.now in
    let found = found_at c.args.number es x c.requires.rising c.in-Some.ensures in
    let ended : is_live c.args.moment x.end ≡ false = sym c.if-is_live.ensures in
    all_with (IsWatched c.args.ends.now.rows c.args.moment) c.args.number es found.place x found.only found.is
    (inr (inr (ended, there_held (is_live c.args.moment x.end) (is_held x) ended (sym c.if-not-is_there.ensures)))) c.requires.others
