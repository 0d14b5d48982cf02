use Rattle.std.proofs.Common.{◌≡◌, take, map}
use Rattle.std.specs.Io.KnownBytes.{Appends}
use Rattle.std.specs.List.{concat}
use Rattle.qap_io.proofs.writing.put_all.Given as goal

abbrev pub invariant-loop-i : goal.invariant-loop-i
invariant-loop-i g l = record {
  bytes : Appends (g.W.Write.contents l.initial.writer.inner) (g.W.Write.contents l.writer.inner) (concat (take l.i (map (λ t. t.now) l.texts)));
  kept : l.writer.failures ≡ l.initial.writer.failures;
}
