use Rattle.std.proofs.Common.{◌≡◌, ◌<ℤ◌, ◌≤ℤ◌, inl, inr, ℤ, refl, subst, arith, rules, to_z, of_z}
use Rattle.std.specs.Int.{w128}
use Rattle.std.proofs.lemmas.Int.{ints, to_z-of_z}
use Rattle.qap_search.specs.Law.Replacement.{Best}
use Rattle.qap_search.specs.Node.Thought.{candidate_of, thought_on}
use Rattle.qap_search.proofs.NodeLemmas.Deciding.{better_candidate, better_old, made_then}
use Rattle.qap_search.proofs.node.decision.decide_anew.Goals as goal

pub returns-then-thought-cost : goal.returns-then-thought-cost
returns-then-thought-cost c =
    let x = c.args.node.now in
    let t = c.args.thought.now in
    let old : Best = record { cost = c.args.cost; permutation = c.args.perm.now } in
    let same : to_z w128 (of_z w128 t.cost) ≡ t.cost = search rules in
    let less : t.cost <ℤ c.args.cost = omega (arith, ints, c.ranges.cost, same, c.if-thought-cost.true) in
    made_then c.decide_beside.result _ _ _ _ (λ none. (candidate_of t, inl (less, refl), none.0, subst (λ (z : ℤ). t.value <ℤ z) same none.1))
    (λ ts d I h. better_candidate I old x t _ ts.items same less (d I h)) c.decide_beside.ensures

pub returns-else-thought-cost : goal.returns-else-thought-cost
returns-else-thought-cost c =
    let x = c.args.node.now in
    let t = c.args.thought.now in
    let old : Best = record { cost = c.args.cost; permutation = c.args.perm.now } in
    let same : to_z w128 (of_z w128 c.args.cost) ≡ c.args.cost = to_z-of_z w128 c.args.cost c.ranges.cost in
    let more : c.args.cost ≤ℤ t.cost = omega (arith, ints, c.ranges.cost, same, c.if-thought-cost.false) in
    made_then c.decide_beside-else-thought-cost.result _ _ _ _ (λ none. (old, inr (more, refl), none.0, subst (λ (z : ℤ). t.value <ℤ z) same none.1))
    (λ ts d I h. better_old I old (thought_on x t) _ ts.items same more (d I h)) c.decide_beside-else-thought-cost.ensures
