use Rattle.std.proofs.Common.{ℕ, ◌<◌, ◌≤◌, ◌*◌, ◌^◌}
use Rattle.std.specs.Prelude.{unsigned_abs}
use Rattle.qap_cost.specs.Instance.{entry}
use Rattle.qap_improve.proofs.small.has_small_entries.Given as goal

abbrev pub invariant-loop-i : goal.invariant-loop-i
invariant-loop-i l =
    ((r j : ℕ) → r < l.i → j < l.instance.size → unsigned_abs (entry l.instance.size l.instance.a r j) ≤ 5 * 10 ^ 7)
    × ((r j : ℕ) → r < l.i → j < l.instance.size → unsigned_abs (entry l.instance.size l.instance.b r j) ≤ 5 * 10 ^ 7)
