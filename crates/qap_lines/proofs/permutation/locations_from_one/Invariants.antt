use Rattle.std.proofs.Common.{◌≡◌, take}
use Rattle.qap_io.specs.Number.{from_one}
use Rattle.qap_lines.proofs.permutation.locations_from_one.Given as goal

abbrev pub invariant-loop-value : goal.invariant-loop-value
invariant-loop-value l = take l.value-index l.values ≡ from_one l.locations.items
