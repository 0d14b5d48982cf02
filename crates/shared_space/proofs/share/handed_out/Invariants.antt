use Rattle.std.proofs.Common.{◌≡◌, ◌+◌, ◌≤◌}
use Rattle.std.specs.Prelude.{replicate, vec_capacity}
use Rattle.shared_space.proofs.share.handed_out.Given as goal

abbrev pub invariant-loop : goal.invariant-loop
invariant-loop g l = record {
  parts : l.rest.parts + l.counter ≡ l.shares;
  amount : l.rest.amount ≡ 0;
  items : l.handed.items ≡ replicate l.counter 0;
  room : l.shares ≤ vec_capacity l.handed;
}
