use Rattle.std.proofs.Common.{ap, length, arith}
use Rattle.std.proofs.lemmas.Int.{ints}
use Rattle.subtree_search.proofs.Progress.{back_at}
use Rattle.subtree_search.proofs.Trees.{IsNode-drawn}
use Rattle.subtree_search.proofs.ground.Ground.+diving.Goals as goal

pub dive-dive_below-requires : goal.dive-dive_below-requires
dive-dive_below-requires t c =
    let ensures = c.in_ok-follow.ensures in
    let rest = c.split_at_mut-first.ensures.back_len in
    (omega (arith, c.decreases, rest), (ensures.node, (ensures.first, (omega (arith, ensures.fewer, c.requires.room, rest), (c.requires.symmetries, c.requires.incumbent)))))

pub dive-returns-clause-path : goal.dive-returns-clause-path
dive-returns-clause-path t c =
    back_at c.args.path.now c.follow.new.path c.dive_below.new.path c.pop.new.self c.row-h.result c.column-g.result c.in_ok-below.ensures.path c.in_ok-follow.ensures.path c.pop.ensures

pub dive_below-best_line-line-requires-clause-node : goal.dive_below-best_line-line-requires-clause-node
dive_below-best_line-line-requires-clause-node t c =
    IsNode-drawn _ _ _ _ c.args.level.now.form _ _ _ c.requires.node (c.in_ok-closes.ensures.left c.if-branch.false).line

pub dive_below-dive-requires : goal.dive_below-dive-requires
dive_below-dive-requires t c =
    let drawn = c.in_ok-closes.ensures.left c.if-branch.false in
    let rows = ap length drawn.line.rows in
    (omega (arith, c.decreases), (IsNode-drawn _ _ _ _ c.args.level.now.form _ _ _ c.requires.node drawn.line, (c.best_line-line.ensures, (omega (arith, c.requires.room, rows), (c.requires.symmetries, c.in_ok-closes.ensures.incumbent)))))

pub dive_below-returns-clause-no_worse : goal.dive_below-returns-clause-no_worse
dive_below-returns-clause-no_worse t c = let one = c.closes.ensures.no_worse in let other = c.dive.ensures.no_worse in omega (arith, ints, one, other)
