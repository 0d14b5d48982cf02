use Rattle.std.proofs.Common.{ap, length, arith}
use Rattle.tuple_space.proofs.PlaceLemmas.{few_in}
use Rattle.tuple_space.proofs.space.Space.into_permanent.Goals as goal

pub permanent_of-requires-clause-enough : goal.permanent_of-requires-clause-enough
permanent_of-requires-clause-enough c =
    let few = few_in c.as_slice.result.now in
    let same = ap length c.as_slice.ensures in
    let room = c.in-Ok.ensures.capacity in
    omega arith
