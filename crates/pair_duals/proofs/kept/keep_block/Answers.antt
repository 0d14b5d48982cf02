use Rattle.std.proofs.Common.{◌<◌, ℕ, length, arith, sym, subst}
use Rattle.pair_duals.proofs.kept.keep_block.Goals as goal

pub share_columns-requires-clause-columns : goal.share_columns-requires-clause-columns
share_columns-requires-clause-columns g c = λ k hk.
    let first = c.requires.columns in
    let within : k < length c.args.duals.now.facilities = omega (arith, hk, first.count) in
    subst (λ (n : ℕ). n < length c.args.duals.now.locations) (sym (first.each k within)) (omega (arith, within, c.requires.duals.same_count))

pub share_columns-requires-clause-l_in : goal.share_columns-requires-clause-l_in
share_columns-requires-clause-l_in g c = omega (arith, c.requires.l_in, c.requires.duals.same_count)
