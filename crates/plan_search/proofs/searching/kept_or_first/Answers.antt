use Rattle.std.proofs.Common.{◌≡◌, ◌∙◌, arith, of_z, rules, sym, to_z}
use Rattle.std.specs.Int.{w128}
use Rattle.std.proofs.lemmas.Int.{ints}
use Rattle.plan_search.proofs.searching.kept_or_first.Goals as goal

pub returns-clause-searched : goal.returns-clause-searched
returns-clause-searched c =
    let own = c.cost.result in
    let low = c.args.found.bound in
    let cost : to_z w128 (of_z w128 own) ≡ own = search rules in
    let bound : to_z w128 (of_z w128 low) ≡ low = search rules in
    let value = c.cost.ensures.value in
    let above = c.requires.searched.no_dearer in
    let below = c.requires.searched.at_most in
    rw (cost, bound) (record {
      permutes = record {
        bijection = c.requires.first.bijection;
        same_size = c.requires.first.same_size ∙ c.requires.size;
      };
      costs = sym value;
      no_dearer = omega (arith, ints, value);
      none_less = c.requires.searched.none_less;
      at_most = omega (arith, ints, above, below, value);
    })
