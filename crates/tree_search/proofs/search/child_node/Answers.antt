use Rattle.std.proofs.Common.{◌∙◌, ap, length}
use Rattle.std.proofs.lemmas.List.{length_push}
use Rattle.qap_cost.proofs.Placements.{IsPlacement-depth}
use Rattle.qap_cost.specs.Placement.{Placement}
use Rattle.tree_search.proofs.search.child_node.Goals as goal

pub returns-in_ok-child : goal.returns-in_ok-child
returns-in_ok-child c =
    let is = c.in_ok-child.ensures.value in
    let size = ap (λ (x : Placement). x.size) is in
    let more = ap (λ (x : Placement). length x.facilities) is ∙ length_push c.args.node.now.facilities _ in
    (size, more, IsPlacement-depth c.in_ok-child.child c.placement_law.ensures)
