use Rattle.std.proofs.Common.{◌≤◌, ◌^◌, arith}
use Rattle.qap_lines.proofs.Numerals.{reads_negative, HasNoFrontNumber-negative, HasNoFrontNumber-minus_zero, IsFrontNumber-negative}
use Rattle.qap_lines.proofs.number.front_negative.Goals as goal

pub returns-in-Some : goal.returns-in-Some
returns-in-Some c =
    HasNoFrontNumber-minus_zero c.args.text.now _ _ c.in-Some.ensures (omega arith)

pub returns-in-Some-2 : goal.returns-in-Some-2
returns-in-Some-2 c =
    let m = c.in-Some.digits.magnitude in
    let h : m ≤ 10 ^ 25 = omega (arith, c.in-Some.ensures.value) in
    IsFrontNumber-negative c.args.text.now _ _ _ c.in-Some.ensures c.if-digits-eq0.false (reads_negative c.negated.result m c.negated.ensures h)

pub returns-in-None : goal.returns-in-None
returns-in-None c = HasNoFrontNumber-negative c.args.text.now c.in-None.ensures
