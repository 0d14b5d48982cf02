use Rattle.std.proofs.Common.{◌≡◌, ◌∙◌, ap, sym, ℕ}
use Rattle.tuple_space.specs.Rows.{changed}
use Rattle.tuple_space.specs.Space.{SpaceValue, held_by}
use Rattle.space_txn.specs.declared.mark.Mark.{Mark}
use Rattle.space_txn.specs.Marks.{marks_of, with_mark}
use Rattle.space_txn.proofs.MarkLemmas.{marks_after}
use Rattle.space_txn.proofs.finding.put_mark_on.Goals as goal

pub returns-clause-marks : goal.returns-clause-marks
returns-clause-marks c =
    let es = c.args.space.now.entries in
    let holder = c.args.holder in
    let mark = c.args.mark in
    let e = c.requires.new.0 in
    let at = c.requires.new.1 in
    let own = c.requires.new.2 in
    let number : c.args.id ≡ e.number = c.requires.id ∙ ap (λ (m : Mark). m.entry) own in
    let old = c.in_ok-reserve.ensures.items ∙ c.requires.own in
    c.put_mark.ensures
    ∙ ap (with_mark mark) old
    ∙ ap (λ (m : Mark). with_mark m (marks_of holder es)) own
    ∙ marks_after holder mark.taken es at.0 e c.requires.valid.rising at.1 at.2
    ∙ sym (ap (λ (s : SpaceValue). marks_of holder s.entries) c.in_ok-pin.ensures.ok ∙ ap (λ (n : ℕ). marks_of holder (changed n (held_by holder mark.taken) es)) number)
