use Rattle.std.proofs.Common.{arith}
use Rattle.qap_improve.proofs.RowProducts.{rows-own}
use Rattle.qap_improve.proofs.rows.product_with.Goals as goal

pub product_at-to_both-requires-clause-rows : goal.product_at-to_both-requires-clause-rows
product_at-to_both-requires-clause-rows c = rows-own 1000000000 c.args.there.now.size c.args.back.now c.requires.back

pub product_at-to_both-requires-clause-first : goal.product_at-to_both-requires-clause-first
product_at-to_both-requires-clause-first c = omega (arith, c.requires.back.size)

pub product_at-to_both-requires-clause-second : goal.product_at-to_both-requires-clause-second
product_at-to_both-requires-clause-second c = omega (arith, c.requires.back.size)
