use Rattle.std.proofs.Common.{◌<◌, ◌∙◌, ap, subst, sym}
use Rattle.std.specs.Prelude.{◌≡◌, ◌==◌, List, Some, find, is_some, true}
use Rattle.std.specs.List.{AllPairs}
use Rattle.tuple_space.specs.Space.{SpaceValue}
use Rattle.space_txn.specs.Marks.{marks_of}
use Rattle.space_txn.specs.declared.mark.Mark.{Mark}
use Rattle.space_txn.proofs.FindingLemmas.{marked_held, marks_retaken}
use Rattle.space_txn.proofs.MarkLemmas.{marks_rising}
use Rattle.space_txn.proofs.finding.take_marked.Goals as goal

pub unwrap-requires : goal.unwrap-requires
unwrap-requires c =
    let e = c.requires.entry in
    c.pin.ensures.ready (marked_held c.args.holder c.args.id c.args.space.now.entries e.0 c.requires.valid.rising e.1 e.2
    (subst (λ (ms : List Mark). is_some (find (λ (m : Mark). m.entry == c.args.id) ms) ≡ true) c.requires.own c.requires.marked))

pub take_mark-requires-clause-rising : goal.take_mark-requires-clause-rising
take_mark-requires-clause-rising c =
    subst (AllPairs (λ (m : Mark) (n : Mark). m.entry < n.entry)) (sym c.requires.own) (marks_rising c.args.holder c.args.space.now.entries c.requires.valid.rising)

pub returns-clause-marks : goal.returns-clause-marks
returns-clause-marks c =
    let e = c.requires.entry in
    let held = rw c.unwrap.ensures at c.pin.ensures.ok in
    marks_retaken c.args.holder c.args.id c.args.permanent c.args.space.now.entries e.0 c.args.marks.now.items _ c.requires.valid.rising e.1 e.2 e.3 c.requires.own c.requires.marked
    (λ m found. c.take_mark.ensures m (subst (λ k. find (λ (x : Mark). x.entry == k) c.args.marks.now.items ≡ Some m) (sym c.number.ensures) found))
    ∙ sym (ap (λ (s : SpaceValue). marks_of c.args.holder s.entries) held)
