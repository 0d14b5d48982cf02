use Rattle.std.proofs.Common.{◌+◌, ◌++◌, ◌∷◌, [], length, take, pos, inl, refl, sym, ◌∙◌, ap, subst, arith, length-append, length-take-le}
use Rattle.std.proofs.lemmas.Bool.{false≢true}
use Rattle.std.proofs.lemmas.List.{append_cancel_right, take_at}
use Rattle.std.proofs.lemmas.Result.{err_from_is_err_and}
use Rattle.qap_lines.specs.LineText.{numbers_text}
use Rattle.proof_check.specs.Lines.{AreMarks}
use Rattle.proof_check.proofs.SplitLines.{heading_parts, no_split_line, numbers_behind, split_found}
use Rattle.proof_check.proofs.TreeLines.{split_line}
use Rattle.proof_check.proofs.node_line.read_split.Goals as goal

pub returns-in_default-clause-refused : goal.returns-in_default-clause-refused
returns-in_default-clause-refused c = λ number marked u less long marks limited is.
    absurd (no_split_line c.args.side number marked u c.args.line.now (omega (arith, less, c.requires.size)) c.in_default.ensures.first (append_cancel_right c.args.line.now (split_line c.args.side number marked u) (10 ∷ []) is))

pub returns-in_default-number_of-clause-refused : goal.returns-in_default-number_of-clause-refused
returns-in_default-number_of-clause-refused c = λ number marked u less long marks limited is.
    let first = c.in-Some.ensures.first in
    let parts = heading_parts c.args.side number marked u c.args.line.now c.in-Some.heading.front.now c.in-Some.heading.behind.now (omega (arith, less, c.requires.size)) c.in-Some.ensures.found first.0 first.1
    (append_cancel_right c.args.line.now (split_line c.args.side number marked u) (10 ∷ []) is) in
    absurd (c.in_default-number_of.ensures number less (parts.0 ∙ ap (λ l. l ++ numbers_text (pos (number + 1) ∷ [])) (sym c.letter_of.ensures)))

pub returns-then-heading-m-clause-refused : goal.returns-then-heading-m-clause-refused
returns-then-heading-m-clause-refused c = λ number marked u less long marks limited is.
    let first = c.in-Some.ensures.first in
    let parts = heading_parts c.args.side number marked u c.args.line.now c.in-Some.heading.front.now c.in-Some.heading.behind.now (omega (arith, less, c.requires.size)) c.in-Some.ensures.found first.0 first.1
    (append_cancel_right c.args.line.now (split_line c.args.side number marked u) (10 ∷ []) is) in
    absurd (omega (arith, ap length parts.1, length-append marked (numbers_text u), long, c.if-heading-m.true))

pub returns-in_err-u-clause-refused : goal.returns-in_err-u-clause-refused
returns-in_err-u-clause-refused c =
    let p = err_from_is_err_and c.from_residual-in_err-u.result c.from_residual-in_err-u.ensures.1 in
    rw (p.1, p.2) (λ number marked u less long marks limited is.
    let first = c.in-Some.ensures.first in
    let parts = heading_parts c.args.side number marked u c.args.line.now c.in-Some.heading.front.now c.in-Some.heading.behind.now (omega (arith, less, c.requires.size)) c.in-Some.ensures.found first.0 first.1
    (append_cancel_right c.args.line.now (split_line c.args.side number marked u) (10 ∷ []) is) in
    inl ((c.in_err-u.ensures {u = tt}).refused u limited (numbers_behind c.args.m c.in-Some.heading.behind.now marked u parts.1 long)))

pub returns-clause-found : goal.returns-clause-found
returns-clause-found c =
    let behind = c.in-Some.heading.behind.now in
    let number = c.in-Some-number_of.ensures in
    let numbers = c.in_ok-u.ensures.found in
    let marks = c.in_ok-marks.ensures.items in
    let inside = c.if-heading-m.false in (
      record {
        u = numbers.0;
        number = omega (arith, number.0, c.requires.size);
        marks = ap length marks ∙ length-take-le c.args.m behind inside;
        marked = subst AreMarks (sym marks) (c.are_marks.ensures.0 c.if-not-are_marks.false);
        is = split_found c.args.side c.in-Some-number_of.split c.args.m c.args.line.now c.in-Some.heading.front.now behind c.letter_of.result.now c.in_ok-marks.marks.items c.in_ok-u.u.items c.in-Some.ensures.found number.1 c.letter_of.ensures inside marks numbers.1;
      },
      refl,
    )

pub returns-then-not-are_marks-clause-refused : goal.returns-then-not-are_marks-clause-refused
returns-then-not-are_marks-clause-refused c = λ number marked u less long marks limited is.
    let first = c.in-Some.ensures.first in
    let parts = heading_parts c.args.side number marked u c.args.line.now c.in-Some.heading.front.now c.in-Some.heading.behind.now (omega (arith, less, c.requires.size)) c.in-Some.ensures.found first.0 first.1
    (append_cancel_right c.args.line.now (split_line c.args.side number marked u) (10 ∷ []) is) in
    let same = ap (take c.args.m) parts.1 ∙ take_at marked (numbers_text u) c.args.m long in
    absurd (false≢true (sym c.if-not-are_marks.true ∙ c.are_marks.ensures.1 (subst AreMarks (sym same) marks)))
