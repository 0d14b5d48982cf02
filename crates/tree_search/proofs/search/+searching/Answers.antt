use Rattle.std.proofs.Common.{◌≡◌, ◌+◌, ◌≤◌, ◌∙◌, length, sym, subst, arith}
use Rattle.std.specs.Prelude.{IfSome, Option}
use Rattle.qap_cost.specs.Placement.{Placement}
use Rattle.tree_search.proofs.search.+searching.Goals as goal

pub search_child-search-requires : goal.search_child-search-requires
search_child-search-requires g t c κs within =
    let parent = c.args.node.now in
    let child = subst (λ (o : Option Placement). IfSome o (λ (x : Placement). (x.size ≡ parent.size) × (length x.facilities ≡ length parent.facilities + 1) × (length x.facilities ≤ x.size))) c.in-Some.is c.in_ok-node.ensures in
    (omega (arith, c.decreases, child.0, child.1, child.2), (within, (c.requires.size ∙ sym child.0, (c.requires.rows, record { incumbent = c.requires.progress.incumbent; within = c.requires.progress.within }))))
