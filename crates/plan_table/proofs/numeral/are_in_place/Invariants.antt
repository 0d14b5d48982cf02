use Rattle.std.proofs.Common.{◌≡◌, length}
use Rattle.plan_table.specs.Numerals.{are_in_place}
use Rattle.plan_table.proofs.numeral.are_in_place.Given as goal

abbrev pub invariant-loop-byte : goal.invariant-loop-byte
invariant-loop-byte l = are_in_place l.group l.rest ≡ are_in_place l.group l.text

abbrev pub decreases-loop-byte : goal.decreases-loop-byte
decreases-loop-byte l = length l.rest
