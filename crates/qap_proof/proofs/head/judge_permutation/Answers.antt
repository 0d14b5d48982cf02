use Rattle.std.proofs.Common.{◌≡◌, ◌∙◌, length, refl, sym, ap, inl, inr}
use Rattle.std.specs.Prelude.{codes}
use Rattle.qap_proof.proofs.StatedPermutations.{IsNamed-permutation, IsPermFault-numbers}
use Rattle.qap_lines.proofs.NumberLists.{IsNamed-unique}
use Rattle.qap_proof.proofs.head.judge_permutation.Goals as goal

pub returns-in_default : goal.returns-in_default
returns-in_default c =
    let none = rw c.in_default.is at c.in_ok-numbers.ensures in inr (inl (refl, λ zs long. none zs))

pub returns-then-numbers-n : goal.returns-then-numbers-n
returns-then-numbers-n c =
    let some = rw c.in-Some.is at c.in_ok-numbers.ensures in
    inr (inl (refl, λ zs long named. c.if-numbers-n.true (some.2 ∙ ap length (IsNamed-unique (codes "perm") c.args.line.now some.0 zs some.1 named) ∙ long)))

pub returns-in-Some-2 : goal.returns-in-Some-2
returns-in-Some-2 c =
    let some = rw c.in-Some.is at c.in_ok-numbers.ensures in
    let long : length some.0 ≡ c.args.n = sym some.2 ∙ c.if-numbers-n.false in
    let lent = c.deref.ensures.value in
    let found = rw c.in-Some-2.is at c.in_ok-permutation.ensures in
    IsNamed-permutation c.args.n c.args.line.now some.0 _ _ long (lent ∙ some.4) some.1 found.0 found.1

pub returns : goal.returns
returns c =
    let some = rw c.in-Some.is at c.in_ok-numbers.ensures in
    let long : length some.0 ≡ c.args.n = sym some.2 ∙ c.if-numbers-n.false in
    let lent = c.deref.ensures.value in
    let none = rw c.in-None.is at c.in_ok-permutation.ensures in
    IsPermFault-numbers c.args.n c.args.line.now some.0 _ _ long (lent ∙ some.4) some.1 (inr (refl, none))
