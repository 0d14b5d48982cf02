use Rattle.std.proofs.Common.{◌≡◌, ◌≤◌, ◌^◌, ◌++◌, ◌∷◌, [], ℤ, unsigned_abs, sym, subst, arith}
use Rattle.std.specs.Prelude.{codes}
use Rattle.qap_lines.specs.LineText.{line_text}
use Rattle.qap_lines.proofs.NumberLists.{line_text-one}
use Rattle.qap_lines.proofs.Numerals.{reads_wide}
use Rattle.qap_proof.proofs.head.read_cost.Goals as goal

pub returns : goal.returns
returns c =
    let text = c.args.text.now in
    let line = c.in_ok-line.line in
    let found = c.in_ok-cost.ensures in
    subst (λ (z : ℤ). (unsigned_abs z ≤ 10 ^ 24) × (text ≡ line_text (codes "cost") (z ∷ []) ++ line.rest.now)) (sym (reads_wide c.in_ok-cost.cost (omega arith)))
    (found.0, line_text-one text line.bytes.now line.rest.now (codes "cost") c.in_ok-cost.cost c.in_ok-line.ensures found.1 found.0)
