use Rattle.std.proofs.Common.{ℕ, get_or, arith, below_more, to_z, of_z, rules, SFits}
use Rattle.std.specs.Prelude.{pos, ◌+ℤ◌, ◌≤ℤ◌}
use Rattle.std.specs.Int.{w128}
use Rattle.std.proofs.lemmas.Int.{ints}
use Rattle.gilmore_lawler.proofs.duals.row_fits.Goals as goal

pub loop-k-preserved : goal.loop-k-preserved
loop-k-preserved c =
    let column = c.requires.column_range.each c.loop-k.k (omega arith) in
    below_more (λ (k : ℕ). (to_z w128 (of_z w128 c.args.row_dual) +ℤ get_or c.args.column_duals.now k (pos 0)) ≤ℤ get_or c.args.row.now k (pos 0)) c.loop-k.k
    c.loop-k.invariant
    (let fits : SFits w128 (get_or c.args.row.now c.loop-k.k (pos 0)) = search rules in
    grind (arith, ints))
