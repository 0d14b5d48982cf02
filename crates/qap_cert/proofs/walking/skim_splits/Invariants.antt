use Rattle.std.proofs.Common.{map, reverse}
use Rattle.qap_cert.specs.Levels.{AreOfSize, LeadsBehind, level_of}
use Rattle.qap_cert.proofs.walking.skim_splits.Given as goal

abbrev pub invariant-loop-split : goal.invariant-loop-split
invariant-loop-split l =
    AreOfSize l.grammar.size (reverse l.splits.items)
    × LeadsBehind l.grammar.version l.grammar.size (map level_of (reverse l.fn.splits.items)) l.fn.line l.fn.text (map level_of (reverse l.splits.items)) l.next l.rest

abbrev pub decreases-loop-split : goal.decreases-loop-split
decreases-loop-split l = goal.left-loop-split l
