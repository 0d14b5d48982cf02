use Rattle.std.proofs.Common.{rules, ◌∙◌, ap, sym}
use Rattle.std.specs.Prelude.{not}
use Rattle.std.proofs.lemmas.Bool.{false≢true}
use Rattle.proof_check.proofs.Lines.{limited_numbers}
use Rattle.proof_check.proofs.Refusals.{is_limited, named_line, other_count}
use Rattle.proof_check.proofs.numbers.limited_numbers.Goals as goal

pub returns-clause-found : goal.returns-clause-found
returns-clause-found c =
    let some = rw c.in-Some.is at c.in_ok-found.ensures in
    limited_numbers c.args.m c.args.name.now c.args.text.now some.0 _ some.1 (sym some.2 ∙ c.if-found-m.false) (some.3.0 (search rules)) some.4

pub returns-in_default-clause-refused : goal.returns-in_default-clause-refused
returns-in_default-clause-refused c = λ u limited is.
    let none = rw c.in_default.is at c.in_ok-found.ensures in
    absurd (none u (named_line c.args.m c.args.name.now c.args.text.now u limited is))

pub returns-then-found-m-clause-refused : goal.returns-then-found-m-clause-refused
returns-then-found-m-clause-refused c = λ u limited is.
    let some = rw c.in-Some.is at c.in_ok-found.ensures in
    absurd (other_count c.args.m c.args.name.now c.args.text.now some.0 u some.1 (λ e. c.if-found-m.true (some.2 ∙ e)) limited is)

pub returns-then-not-found-clause-refused : goal.returns-then-not-found-clause-refused
returns-then-not-found-clause-refused c = λ u limited is.
    let some = rw c.in-Some.is at c.in_ok-found.ensures in
    let all = is_limited c.args.m c.args.name.now c.args.text.now some.0 u some.1 limited is in
    absurd (false≢true (sym (ap not (some.3.1 all)) ∙ c.if-not-found.true))
