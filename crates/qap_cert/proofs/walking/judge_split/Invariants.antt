use Rattle.std.proofs.Common.{◌+◌, ◌*◌, ◌∷◌, [], length, reverse, vec_len}
use Rattle.std.specs.Prelude.{None}
use Rattle.qap_cert.specs.Levels.{AreOfSize, IsToldBehind}
use Rattle.qap_cert.proofs.walking.judge_split.Given as goal

abbrev pub invariant-loop-innermost : goal.invariant-loop-innermost
invariant-loop-innermost l =
    AreOfSize l.task.grammar.size (reverse l.splits.items)
    × IsToldBehind l.task.grammar.version l.task.grammar.size l.task.ranked.now l.task.bound None (l.fn.split ∷ []) l.fn.line l.fn.text (reverse l.splits.items) l.next l.rest

abbrev pub decreases-loop-innermost : goal.decreases-loop-innermost
decreases-loop-innermost l = 2 * length l.rest + vec_len l.splits
