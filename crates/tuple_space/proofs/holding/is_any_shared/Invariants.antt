use Rattle.std.proofs.Common.{◌≡◌, false}
use Rattle.std.specs.List.{AllWithin}
use Rattle.tuple_space.specs.Entry.{is_shared}
use Rattle.tuple_space.proofs.RowLemmas.{passes_at}
use Rattle.tuple_space.proofs.holding.is_any_shared.Given as goal

abbrev pub invariant-loop-place : goal.invariant-loop-place
invariant-loop-place l = AllWithin (λ r. r.by ≡ l.holder → passes_at r.entry (is_shared l.holder) l.entries.items ≡ false) l.held 0 l.place
