use Rattle.std.proofs.Common.{◌≡◌, ◌++◌, ◌∷◌, [], List, ℕ, ℤ, subst, sym, to_z, of_z, arith}
use Rattle.std.specs.Prelude.{codes}
use Rattle.std.specs.Int.{w128}
use Rattle.std.proofs.lemmas.Int.{to_z-of_z}
use Rattle.qap_lines.specs.Number.{IsNamed}
use Rattle.qap_lines.specs.LineText.{line_text}
use Rattle.qap_proof.specs.TextFault.{IsBelow}
use Rattle.qap_lines.proofs.Lines.{IsLine-unique, no_line-line}
use Rattle.qap_lines.proofs.NumberLists.{line_text-one}
use Rattle.qap_lines.proofs.Numerals.{reads_wide}
use Rattle.qap_proof.proofs.bound.stated_bound.Goals as goal

pub returns-in_default : goal.returns-in_default
returns-in_default c = λ line rest g is named. no_line-line c.args.text.now line rest c.in_default.ensures is

pub returns-in-None : goal.returns-in-None
returns-in-None c =
    let none = rw c.in-None.is at c.in_ok-bound.ensures in
    λ line rest g is named.
    none g (subst (λ (l : List ℕ). IsNamed (codes "bound") l (g ∷ [])) (IsLine-unique c.args.text.now line rest c.in-Some.line.bytes.now c.in-Some.line.rest.now is c.in-Some.ensures).0 named)

pub returns-in-Some-2 : goal.returns-in-Some-2
returns-in-Some-2 c =
    let text = c.args.text.now in
    let line = c.in-Some.line in
    let found = rw c.in-Some-2.is at c.in_ok-bound.ensures in
    let cost : to_z w128 (of_z w128 c.args.cost) ≡ c.args.cost = to_z-of_z w128 c.args.cost c.ranges.cost in
    let low = subst (λ (z : ℤ). IsBelow z c.in-Some-2.bound) cost found.0 in
    subst (λ (z : ℤ). IsBelow c.args.cost z × (text ≡ line_text (codes "bound") (z ∷ []) ++ line.rest.now)) (sym (reads_wide c.in-Some-2.bound (omega (arith, low.limited))))
    (low, line_text-one text line.bytes.now line.rest.now (codes "bound") c.in-Some-2.bound c.in-Some.ensures found.1 low.limited)
