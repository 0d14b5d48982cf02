use Rattle.std.proofs.Common.{arith, length, get_or}
use Rattle.gilmore_lawler.proofs.KeptLevels.{KeepsRows-before, KeepsRows-made}
use Rattle.gilmore_lawler.proofs.levels.make_distances.Goals as goal

pub returns-clause-kept : goal.returns-clause-kept
returns-clause-kept c =
    let before = KeepsRows-before c.args.ranked.now c.args.levels.now c.split_at_mut-above.result.1.now c.index-own-0.result (length c.args.places.now) c.split_at_mut-above.ensures.back c.requires.kept
    (omega (arith, c.split_at_mut-above.ensures.back_len, c.requires.deep)) in
    KeepsRows-made c.args.ranked.now c.args.levels.now c.split_at_mut-above.result.0.now c.split_at_mut-above.result.1.now (record { flows = (get_or c.split_at_mut-above.result.1.now 0 c.index-own-0.result).flows; distances = c.make.new.self }) (length c.args.places.now)
    c.split_at_mut-above.ensures.front c.split_at_mut-above.ensures.back c.requires.kept (record { flows = before.flows; distances = c.make.ensures.kept })
