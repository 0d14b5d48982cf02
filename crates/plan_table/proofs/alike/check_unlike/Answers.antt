use Rattle.std.proofs.Common.{arith}
use Rattle.std.specs.String.{string_bytes}
use Rattle.plan_table.proofs.FoldedNames.{unlike_by_keys}
use Rattle.plan_table.proofs.alike.check_unlike.Goals as goal

pub returns : goal.returns
returns c =
    unlike_by_keys string_bytes c.args.names.now _ c.loop-k.k c.in_ok-keys.ensures (omega arith) c.loop-k.invariant
