-- What stands before the rest of the piece has been fed.
use Rattle.std.proofs.Common.{◌≡◌, ◌++◌, ℕ, List, length}
use Rattle.space_script.specs.Feeding.{Fed, standing}
use Rattle.space_script.proofs.feeding.feed.Given as goal

abbrev pub invariant-loop-before : goal.invariant-loop-before
invariant-loop-before g l =
    (done : List ℕ) × (l.piece ≡ done ++ l.rest)
    × Fed g.W.Write.contents (standing l.initial.session l.initial.line.items l.initial.writer) done (standing l.session l.line.items l.writer)

abbrev pub decreases-loop-before : goal.decreases-loop-before
decreases-loop-before g l = length l.rest
