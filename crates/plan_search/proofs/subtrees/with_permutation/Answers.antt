use Rattle.std.proofs.Common.{◌≡◌, ◌∙◌, arith, of_z, rules, sym, to_z}
use Rattle.std.specs.Int.{w128}
use Rattle.std.proofs.lemmas.Int.{ints}
use Rattle.plan_search.proofs.subtrees.with_permutation.Goals as goal

pub returns-clause-searched : goal.returns-clause-searched
returns-clause-searched c = λ first h.
    let own = c.cost-cost.result in
    let low = c.args.found.bound in
    let cost : to_z w128 (of_z w128 own) ≡ own = search rules in
    let bound : to_z w128 (of_z w128 low) ≡ low = search rules in
    let value = c.cost-cost.ensures.value in
    let completes = c.requires.completes in
    let less = c.requires.less in
    let costs = h.costs in
    let above = h.no_dearer in
    let below = h.none_less c.args.best completes in
    rw (cost, bound) (record {
      permutes = record { bijection = completes.bijection; same_size = completes.same_size ∙ c.requires.same_size };
      costs = sym value;
      no_dearer = omega (arith, ints, value, less, costs, above);
      none_less = h.none_less;
      at_most = omega (arith, ints, value, below);
    })
