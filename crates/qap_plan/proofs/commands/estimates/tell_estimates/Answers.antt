use Rattle.std.proofs.Common.{◌≡◌, ◌+◌, ℕ, arith, false, length, nat_eq, rules, subst}
use Rattle.qap_plan.specs.Estimates.{PrintsMany}
use Rattle.qap_plan.proofs.Printing.{PrintsEstimates-all, PrintsMany-more}
use Rattle.qap_plan.proofs.commands.estimates.tell_estimates.Goals as goal

pub loop-k-preserved : goal.loop-k-preserved
loop-k-preserved g c =
    let printed = c.in_ok-print_line.ensures.printed in
    PrintsMany-more g.S.Sink.prints c.loop-k.k c.args.sink.now c.loop-k.sink c.print_line.new.sink printed.0 c.loop-k.invariant printed.1

pub returns-clause-printed : goal.returns-clause-printed
returns-clause-printed g c =
    let left = length c.args.skeleton.now.parts.items in
    let old = c.args.sink.now in
    let new = c.print_line-2.new.sink in
    let printed = c.in_ok-print_line-2.ensures.printed in
    let end : c.loop-k.k ≡ left = omega (arith, c.loop-k-test.false, c.len-count.ensures, c.loop-k.auto.k-end) in
    let some : nat_eq left 0 ≡ false = search rules in
    let all = PrintsMany-more g.S.Sink.prints c.loop-k.k old c.loop-k.sink new printed.0 c.loop-k.invariant printed.1 in
    PrintsEstimates-all g.S.Sink.prints left old new some (subst (λ (n : ℕ). PrintsMany g.S.Sink.prints (n + 1) old new) end all)
