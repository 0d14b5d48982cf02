-- What has been read so far, and what stands behind it.
use Rattle.std.proofs.Common.{◌≡◌, ◌+◌, ℕ, true, List, length}
use Rattle.std.specs.Io.KnownBytes.{Consumes}
use Rattle.space_script.specs.Feeding.{Fed, standing}
use Rattle.space_script.specs.Run.{longest_script}
use Rattle.space_script.proofs.run.feed_all.Given as goal

abbrev pub invariant-loop-count : goal.invariant-loop-count
invariant-loop-count g l =
    (text : List ℕ) × Consumes (g.R.Read.remaining l.initial.reader.inner) (g.R.Read.remaining l.reader.inner) text
    × (length text + l.room ≡ longest_script)
    × (l.reader.failures ≡ l.initial.reader.failures)
    × Fed g.W.Write.contents (standing l.initial.session l.initial.line.items l.initial.writer) text (standing l.session l.line.items l.writer)
    × (l.initial.writer.flushed ≡ true → l.writer.flushed ≡ true)

abbrev pub decreases-loop-count : goal.decreases-loop-count
decreases-loop-count g l = l.room
