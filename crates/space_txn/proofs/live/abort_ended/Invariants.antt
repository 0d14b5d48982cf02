use Rattle.std.proofs.Common.{◌≡◌, drop}
use Rattle.space_txn.specs.Live.{abort_each, ended_at}
use Rattle.space_txn.proofs.live.abort_ended.Given as goal

abbrev pub invariant-loop-row : goal.invariant-loop-row
invariant-loop-row l =
    abort_each (ended_at l.moment (drop l.row-index l.live)) l.space ≡ abort_each (ended_at l.moment l.live) l.fn.space
