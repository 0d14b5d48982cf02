use Rattle.std.proofs.Common.{◌∙◌}
use Rattle.number_list.proofs.Orders.{naturals_in_order}
use Rattle.number_list.proofs.numbers.compare_bytes.Goals as goal

pub returns : goal.returns
returns c = c.cmp.ensures ∙ naturals_in_order c.args.numbers.now c.args.other.now
