use Rattle.std.proofs.Common.{◌≤◌, ◌^◌, arith}
use Rattle.qap_lines.proofs.Numerals.{reads_positive, HasNoFrontNumber-positive, IsFrontNumber-positive}
use Rattle.qap_lines.proofs.number.front_positive.Goals as goal

pub returns-in-Some : goal.returns-in-Some
returns-in-Some c =
    let m = c.in-Some.digits.magnitude in
    let h : m ≤ 10 ^ 25 = omega (arith, c.in-Some.ensures.value) in
    IsFrontNumber-positive c.args.text.now _ _ _ c.in-Some.ensures (reads_positive c.signed.result m c.signed.ensures h)

pub returns-in-None : goal.returns-in-None
returns-in-None c = HasNoFrontNumber-positive c.args.text.now c.in-None.ensures c.requires
