use Rattle.std.proofs.Common.{[], refl}
use Rattle.plan_table.proofs.Digits.{held-made}
use Rattle.plan_table.proofs.decimal.held.Goals as goal

pub returns : goal.returns
returns c =
    let first = c.followed_by-before.ensures.value [] refl in
    held-made c.args.whole.now c.args.fraction.now _ _ _ refl (c.followed_by-magnitude.ensures.value c.args.whole.now first) refl
