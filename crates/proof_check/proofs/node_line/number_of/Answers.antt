use Rattle.std.proofs.Common.{◌+◌, pos}
use Rattle.proof_check.proofs.Lines.{number_line}
use Rattle.proof_check.proofs.Refusals.{number_named}
use Rattle.proof_check.proofs.node_line.number_of.Goals as goal

pub returns : goal.returns
returns c = number_line c.args.name.now c.args.text.now c.args.size c.in_ok-stated.stated c.from_one.result c.in_ok-stated.ensures c.requires c.from_one.ensures

pub returns-in_err-stated : goal.returns-in_err-stated
returns-in_err-stated c =
    rw c.from_residual.ensures (λ i less is. c.in_err-stated.ensures {u = tt} (pos (i + 1)) (number_named c.args.name.now c.args.text.now c.args.size i c.requires less is))
