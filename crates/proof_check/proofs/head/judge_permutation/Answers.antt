use Rattle.std.proofs.Common.{◌≡◌, ◌+◌, ◌∙◌, length, map, pos, ap, sym, arith}
use Rattle.std.specs.Prelude.{codes}
use Rattle.std.proofs.lemmas.List.{length-map, take_all}
use Rattle.qap_io.specs.Number.{from_one}
use Rattle.qap_lines.proofs.Held.{held-all_within}
use Rattle.qap_lines.proofs.Locations.{AllLimited-permutation}
use Rattle.qap_lines.proofs.NumberLists.{IsNamed-unique}
use Rattle.qap_lines.specs.Number.{held}
use Rattle.qap_proof.proofs.StatedPermutations.{IsNamed-permutation}
use Rattle.proof_check.proofs.head.judge_permutation.Goals as goal

pub returns-in-Some-2-clause-found : goal.returns-in-Some-2-clause-found
returns-in-Some-2-clause-found c =
    let some = rw c.in-Some.is at c.in_ok-numbers.ensures in
    let long : length some.0 ≡ c.args.n = sym some.2 ∙ c.if-numbers-n.false in
    let lent = c.deref.ensures.value in
    let found = rw c.in-Some-2.is at c.in_ok-permutation.ensures in
    IsNamed-permutation c.args.n c.args.line.now some.0 _ _ long (lent ∙ some.4) some.1 found.0 found.1

pub returns-in_default-clause-refused : goal.returns-in_default-clause-refused
returns-in_default-clause-refused c = λ p perm long named.
    absurd ((rw c.in_default.is at c.in_ok-numbers.ensures) (from_one p) named)

pub returns-then-numbers-n-clause-refused : goal.returns-then-numbers-n-clause-refused
returns-then-numbers-n-clause-refused c = λ p perm long named.
    let some = rw c.in-Some.is at c.in_ok-numbers.ensures in
    let same = IsNamed-unique (codes "perm") c.args.line.now some.0 (from_one p) some.1 named in
    absurd (c.if-numbers-n.true (some.2 ∙ ap length same ∙ length-map p (λ k. pos (k + 1)) ∙ long))

pub returns-clause-refused : goal.returns-clause-refused
returns-clause-refused c = λ p perm long named.
    let some = rw c.in-Some.is at c.in_ok-numbers.ensures in
    let same = IsNamed-unique (codes "perm") c.args.line.now some.0 (from_one p) some.1 named in
    let count : length some.0 ≡ c.args.n = sym some.2 ∙ c.if-numbers-n.false in
    let held_is = c.deref.ensures.value ∙ some.4 ∙ ap (map held) (take_all c.args.n some.0 (omega (arith, count))) ∙ ap (map held) same ∙ held-all_within (from_one p) (AllLimited-permutation p perm) in
    absurd ((rw c.in-None.is at c.in_ok-permutation.ensures) p perm held_is)
