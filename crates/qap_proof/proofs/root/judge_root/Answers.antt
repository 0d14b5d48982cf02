use Rattle.std.proofs.Common.{◌≡◌, ◌*◌, map, refl, sym, ◌∙◌, ap, subst, inr, arith}
use Rattle.std.specs.Prelude.{codes}
use Rattle.std.proofs.lemmas.List.{take_all}
use Rattle.qap_lines.specs.Number.{IsNamed, held}
use Rattle.qap_proof.proofs.Roots.{root_numbers, held_root, root_held}
use Rattle.qap_proof.proofs.root.judge_root.Goals as goal

pub returns-then-numbers-n : goal.returns-then-numbers-n
returns-then-numbers-n c =
    let some = rw c.in-Some.is at c.in_ok-numbers.ensures in
    inr (
      refl,
      some.0,
      some.1,
      λ x h is. let numbers = root_numbers c.args.n some.0 x h is in absurd (omega (arith, numbers.0, numbers.2, some.2, c.if-numbers-n.true)),
    )

pub returns-in-Some-2 : goal.returns-in-Some-2
returns-in-Some-2 c =
    let some = rw c.in-Some.is at c.in_ok-numbers.ensures in
    let found = rw c.in-Some-2.is at c.in_ok-root.ensures in
    let all : c.read_numbers.new.first.items ≡ map held some.0 = some.4 ∙ ap (map held) (take_all (2 * c.args.n) some.0 (omega (arith, some.2, c.if-numbers-n.false))) in
    let told = held_root c.args.n some.0 c.read_numbers.new.first.items c.in-Some-2.root all found.0.root (sym c.deref.ensures.value ∙ found.1) in
    (found.0, subst (IsNamed (codes "node") c.args.line.now) told some.1)

pub returns : goal.returns
returns c =
    let some = rw c.in-Some.is at c.in_ok-numbers.ensures in
    let none = rw c.in-None.is at c.in_ok-root.ensures in
    let all : c.read_numbers.new.first.items ≡ map held some.0 = some.4 ∙ ap (map held) (take_all (2 * c.args.n) some.0 (omega (arith, some.2, c.if-numbers-n.false))) in
    inr (refl, some.0, some.1, λ x h is. none x h (c.deref.ensures.value ∙ root_held c.args.n some.0 c.read_numbers.new.first.items x all h.root is))
