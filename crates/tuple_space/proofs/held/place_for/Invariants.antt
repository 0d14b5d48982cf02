use Rattle.std.proofs.Common.{◌≡◌, ◌<◌}
use Rattle.std.specs.List.{AllWithin}
use Rattle.tuple_space.proofs.held.place_for.Given as goal

abbrev pub invariant-loop-place : goal.invariant-loop-place
invariant-loop-place l = AllWithin (λ r. r.by ≡ l.new.by → r.entry < l.new.entry) l.rows 0 l.place
