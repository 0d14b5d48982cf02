use Rattle.std.proofs.Common.{◌+◌, ◌≤◌, ℕ, length, take}
use Rattle.qap_lines.specs.Line.{IsLine}
use Rattle.qap_cert.specs.TextFault.{IsSplitLine}
use Rattle.qap_cert.specs.Valid.{AllValid}
use Rattle.qap_cert.specs.Walk.{BeginsWithTrees}
use Rattle.qap_cert.proofs.walking.judge_bounds.Given as goal

abbrev pub invariant-loop-i : goal.invariant-loop-i
invariant-loop-i l =
    (length l.rest + l.i ≤ length l.text)
    × BeginsWithTrees l.task.grammar.version l.task.grammar.size l.placed l.i l.line l.text l.rest l.next
    (AllValid l.task.ranked.now l.task.bound l.split.node l.split.facility (take l.i l.split.locations))
    × IsLine l.rest l.here.bytes.now l.here.rest.now
    × ((f : ℕ) → IsSplitLine l.task.grammar.version l.task.grammar.size l.placed l.here.bytes.now f → ⊥)
