use Rattle.std.proofs.Common.{◌≡◌, false}
use Rattle.std.specs.List.{AllWithin}
use Rattle.tuple_space.specs.Index.{is_of}
use Rattle.tuple_space.proofs.index.place_of_bucket.Given as goal

abbrev pub invariant-loop-place : goal.invariant-loop-place
invariant-loop-place l = AllWithin (λ b. is_of l.word l.count b ≡ false) l.buckets 0 l.place
