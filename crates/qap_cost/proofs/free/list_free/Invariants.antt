use Rattle.std.proofs.Common.{◌≡◌}
use Rattle.qap_cost.specs.Placement.{is_untaken}
use Rattle.std.specs.List.{filter, range_with_len}
use Rattle.qap_cost.proofs.free.list_free.Given as goal

abbrev pub invariant-loop-k : goal.invariant-loop-k
invariant-loop-k l = l.free.items ≡ filter (is_untaken l.taken) (range_with_len 0 l.k)
