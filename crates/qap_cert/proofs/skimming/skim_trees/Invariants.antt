use Rattle.std.proofs.Common.{◌+◌, ◌*◌, ◌≤◌, ◌∷◌, [], length, reverse, vec_len}
use Rattle.qap_cert.specs.Levels.{LeadsBehind, levels_of}
use Rattle.qap_cert.proofs.skimming.skim_trees.Given as goal

abbrev pub invariant-loop-here : goal.invariant-loop-here
invariant-loop-here l =
    (length l.placed ≤ l.grammar.size)
    × LeadsBehind l.grammar.version l.grammar.size (levels_of l.fn.placed (l.fn.count ∷ [])) l.fn.line l.fn.text (levels_of l.placed (reverse l.left.items)) l.next l.rest

abbrev pub decreases-loop-here : goal.decreases-loop-here
decreases-loop-here l = 2 * length l.rest + vec_len l.left
