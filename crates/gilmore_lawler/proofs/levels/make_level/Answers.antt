use Rattle.std.proofs.Common.{arith}
use Rattle.gilmore_lawler.proofs.KeptLevels.{on_ok_both, HasLevel-made, KeepsRows-before, KeepsRows-made}
use Rattle.gilmore_lawler.proofs.levels.make_level.Goals as goal

pub make-requires-clause-kept : goal.make-requires-clause-kept
make-requires-clause-kept c =
    KeepsRows-before c.args.ranked.now c.make_ancestors.new.levels c.split_at_mut-above.result.1.now c.index-own-0.result c.depth.result c.split_at_mut-above.ensures.back c.make_ancestors.ensures.kept
    (omega (arith, c.split_at_mut-above.ensures.back_len, c.depth.ensures.value, c.make_ancestors.ensures.count, c.requires.deep))

pub returns-clause-made : goal.returns-clause-made
returns-clause-made c =
    on_ok_both c.make.result
    (HasLevel-made c.args.ranked.now c.args.node.now c.split_at_mut-above.result.0.now c.split_at_mut-above.result.1.now c.make.new.self
    (omega (arith, c.split_at_mut-above.ensures.front_len, c.depth.ensures.value, c.depth.ensures.placement.paired))
    (omega (arith, c.split_at_mut-above.ensures.back_len, c.depth.ensures.value, c.make_ancestors.ensures.count, c.requires.deep)))
    c.make.ensures.flows c.make.ensures.distances

pub returns-clause-kept : goal.returns-clause-kept
returns-clause-kept c =
    KeepsRows-made c.args.ranked.now c.make_ancestors.new.levels c.split_at_mut-above.result.0.now c.split_at_mut-above.result.1.now c.make.new.self c.depth.result
    c.split_at_mut-above.ensures.front c.split_at_mut-above.ensures.back c.make_ancestors.ensures.kept c.make.ensures.kept
