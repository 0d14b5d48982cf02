use Rattle.std.proofs.Common.{◌≡◌, ℕ, subst, arith}
use Rattle.std.specs.Prelude.{All}
use Rattle.std.proofs.lemmas.Int.{ints}
use Rattle.pair_duals.specs.CostStep.{step_of}
use Rattle.subtree_search.specs.Needs.{NeedsTrial}
use Rattle.subtree_search.proofs.StepBounds.{step-below}
use Rattle.subtree_search.proofs.search.SubtreeSearch.split.Goals as goal

-- the step of the search is the cost step, which fits 64 bits
pub returns-clause-needed : goal.returns-clause-needed
returns-clause-needed g c =
    let I = c.args.subtree.now.instance.now in
    let D = c.args.subtree.now.duals.now in
    let y = c.args.subtree.now.node.now in
    let fits = step-below I D.scale c.free.ensures.duals.positive c.requires.in_scale in
    let least = c.split_node.new.incumbent.cost in
    let most = c.args.incumbent.now.cost in
    let whole = c.step_within.ensures.whole (omega (arith, ints, c.requires.step)) (omega (arith, ints, c.requires.step, fits)) in
    let same : c.step_within.result ≡ step_of I = omega (arith, ints, whole, c.requires.step) in
    subst (λ (s : ℕ). All (NeedsTrial I D s y least most) c.in_ok-children.children.items) same c.in_ok-children.ensures.needed
