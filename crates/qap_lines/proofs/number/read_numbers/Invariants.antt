use Rattle.std.proofs.Common.{length}
use Rattle.qap_lines.proofs.NumberLists.{HasKept}
use Rattle.qap_lines.proofs.number.read_numbers.Given as goal

abbrev pub invariant-loop-space : goal.invariant-loop-space
invariant-loop-space l = HasKept l.initial.rest l.rest l.wanted l.count l.limited l.first.items

abbrev pub decreases-loop-space : goal.decreases-loop-space
decreases-loop-space l = length l.rest
