use Rattle.std.proofs.Common.{◌≡◌, ◌+◌, ◌≤◌, drop, false}
use Rattle.plan_table.specs.Separators.{count_outside}
use Rattle.plan_table.proofs.separator.count_outside.Given as goal

abbrev pub invariant-loop-next : goal.invariant-loop-next
invariant-loop-next l = record {
  so_far : l.count + count_outside l.byte l.quoted (drop l.next-index l.text) ≡ count_outside l.byte false l.text;
  small : l.count ≤ l.next-index;
}
