use Rattle.std.specs.Prelude.{◌≡◌}
use Rattle.qap_search.proofs.runs.seat.due.Given as goal

abbrev pub invariant-loop : goal.invariant-loop
invariant-loop l = record {
  accepted : l.hand.accepted ≡ l.initial.hand.accepted;
  instance : l.hand.instance ≡ l.initial.hand.instance;
  lease : l.hand.lease ≡ l.initial.hand.lease;
}
