use Rattle.std.specs.Prelude.{◌≡◌, map, slice_index, take}
use Rattle.qap_cost.proofs.completion.pick.Given as goal

abbrev pub invariant-loop-position : goal.invariant-loop-position
invariant-loop-position l = l.picked.items ≡ map (slice_index l.numbers) (take l.position-index l.positions)
