use Rattle.std.proofs.Common.{◌≡◌, ◌∷◌, ◌++◌, [], ℤ, ap, subst, ◌∙◌, rules, to_z, of_z}
use Rattle.std.specs.Int.{w128}
use Rattle.std.proofs.lemmas.Int.{to_z-of_z}
use Rattle.qap_search.specs.Node.Decision.{DecidesBy}
use Rattle.qap_search.specs.Tuples.Piece.{best_tuple}
use Rattle.qap_search.specs.Node.Thought.{thought_on}
use Rattle.qap_search.proofs.NodeLemmas.Deciding.{decides_beside}
use Rattle.qap_search.proofs.node.decision.decide_beside.Goals as goal

pub returns : goal.returns
returns c = λ I h.
    let t = thought_on c.args.node.now c.args.thought.now in
    let p = c.args.perm.now in
    let old = c.in-Some.tuples.items in
    let best = c.in_ok-tuple_of_best.field-0 in
    let same : to_z w128 (of_z w128 c.args.cost) ≡ c.args.cost = to_z-of_z w128 c.args.cost c.ranges.cost in
    let some = rw c.in-Some.is at c.in_ok-tuples.ensures in
    let pushed : c.push.new.self.items ≡ old ++ best ∷ [] = search rules in
    decides_beside I c.args.cost p t old c.push.new.self.items best (subst (λ (z : ℤ). DecidesBy I z t old) same (some I h)) pushed
    (c.in_ok-tuple_of_best.ensures ∙ ap (λ (z : ℤ). best_tuple z p) same)
