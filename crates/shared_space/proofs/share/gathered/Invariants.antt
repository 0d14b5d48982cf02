use Rattle.std.proofs.Common.{◌≡◌, ◌+◌, vec_len}
use Rattle.std.specs.Prelude.{sum}
use Rattle.shared_space.proofs.share.gathered.Given as goal

abbrev pub invariant-loop-part : goal.invariant-loop-part
invariant-loop-part g l = record {
  parts : l.all.parts + vec_len l.rest ≡ vec_len l.fn.shares;
  amount : l.all.amount ≡ l.counted;
  added : l.counted + sum l.rest.items ≡ sum l.fn.shares.items;
  total : l.book.total ≡ l.fn.book.total;
}

abbrev pub decreases-loop-part : goal.decreases-loop-part
decreases-loop-part g l = vec_len l.rest
