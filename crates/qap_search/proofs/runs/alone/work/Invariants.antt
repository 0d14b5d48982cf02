use Rattle.std.specs.Prelude.{◌≡◌}
use Rattle.qap_search.proofs.runs.alone.work.Given as goal

abbrev pub invariant-loop : goal.invariant-loop
invariant-loop g l =
    (goal.iterator-loop g).can_next l.iterator' × (goal.iterator-loop g).is_finite l.iterator'
    × (l.hand.instance ≡ l.initial.hand.instance) × (l.hand.lease ≡ l.initial.hand.lease) × (l.hand.accepted ≡ l.share)
