use Rattle.std.proofs.Common.{◌≡◌, false}
use Rattle.std.specs.List.{AllWithin}
use Rattle.space_txn.specs.Txn.{is_open_write}
use Rattle.space_txn.proofs.txn.open_write.Given as goal

abbrev pub invariant-loop-place : goal.invariant-loop-place
invariant-loop-place l = AllWithin (λ x. is_open_write l.template x ≡ false) l.writes 0 l.place
