use Rattle.std.proofs.Common.{◌≡◌, ◌≤◌, ◌-◌, vec_len}
use Rattle.std.specs.Io.KnownBytes.{Consumes}
use Rattle.qap_text.proofs.whole.read_front.Given as goal

abbrev pub invariant-loop-byte : goal.invariant-loop-byte
invariant-loop-byte g l =
    (vec_len l.bytes ≤ l.count)
    × Consumes (g.R.Read.remaining l.initial.reader.inner) (g.R.Read.remaining l.reader.inner) l.bytes.items
    × (l.reader.failures ≡ l.initial.reader.failures)

abbrev pub decreases-loop-byte : goal.decreases-loop-byte
decreases-loop-byte g l = l.count - vec_len l.bytes
