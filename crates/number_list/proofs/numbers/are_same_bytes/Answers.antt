use Rattle.number_list.proofs.Equal.{same_naturals}
use Rattle.number_list.proofs.numbers.are_same_bytes.Goals as goal

pub returns : goal.returns
returns c =
    let asked = c.eq.ensures in
    let same = same_naturals c.args.numbers.now c.args.other.now in
    cc
