use Rattle.std.proofs.Common.{◌≤◌, arith}
use Rattle.std.proofs.lemmas.Result.{IfOk-weaker}
use Rattle.tree_search.proofs.Limits.{within-limit}
use Rattle.tree_search.proofs.proving.prove.Goals as goal

pub returns-clause-limit : goal.returns-clause-limit
returns-clause-limit g c =
    let nodes = c.search.new.progress.nodes in
    let within : nodes ≤ c.unwrap_or-most.result = omega (arith, c.in_ok-tree.ensures.advances.after.within, c.in_ok-ground.ensures.limit) in
    IfOk-weaker c.concluded.result _ _ (λ f same. within-limit c.args.limit _ c.unwrap_or-most.result nodes f.nodes c.unwrap_or-most.ensures within same) c.concluded.ensures.nodes
