use Rattle.std.proofs.Common.{sym, ◌∙◌, arith}
use Rattle.std.proofs.lemmas.Bool.{eqb-true, eqb-false, eq-eqb, ltb-true, both_ways}
use Rattle.qap_lines.proofs.Runs.{IsFrontDecimal-from_run, run_from_decimal}
use Rattle.qap_lines.proofs.number.front_decimal.Goals as goal
use Rattle.qap_lines.proofs.number.front_decimal.Goals.{then-digits-eq0, else-digits-eq0+then-digits-gt1, else-digits-eq0+else-digits-gt1}

pub returns-then-text-eq48 : goal.returns-then-text-eq48
returns-then-text-eq48 c = record {
  none = λ word n front decimal.
      let right = run_from_decimal c.args.text.now word _ _ n c.front_digits-digits.ensures front decimal in
      elim c.if-digits-eq0.branch [
        | then-digits-eq0 w ↦ omega (arith, right.0)
        | else-digits-eq0+then-digits-gt1 w ↦ omega (arith, right.1 (eqb-true _ _ (sym w.value-is ∙ c.if-text-eq48.true)))
        | else-digits-eq0+else-digits-gt1 w ↦ omega (arith, ltb-true _ _ (sym w.value-is ∙ c.if-text-eq48.true))
      ];
}

pub returns-else-text-eq48 : goal.returns-else-text-eq48
returns-else-text-eq48 c =
    let run = c.front_digits-digits.ensures in
    elim c.if-digits-eq0.branch [
      | then-digits-eq0 w ↦ absurd (both_ways _ (sym w.value-is ∙ c.if-text-eq48.false) (eq-eqb _ _ w.if-digits-eq0.true))
      | else-digits-eq0+then-digits-gt1 w ↦
          IsFrontDecimal-from_run c.args.text.now _ _ run (omega arith) (λ e. absurd (eqb-false _ _ (sym w.value-is ∙ c.if-text-eq48.false) e))
      | else-digits-eq0+else-digits-gt1 w ↦ IsFrontDecimal-from_run c.args.text.now _ _ run (omega arith) (λ _. omega arith)
    ]
