use Rattle.std.proofs.Common.{arith}
use Rattle.tuple_space.proofs.HeldLemmas.{none_shared}
use Rattle.tuple_space.proofs.holding.is_any_shared.Goals as goal

pub returns : goal.returns
returns c = λ none.
    none_shared c.args.holder c.args.held.now c.args.entries.now.items c.requires.held (λ k d lt. c.loop-place.invariant k d (omega arith) (omega arith))
