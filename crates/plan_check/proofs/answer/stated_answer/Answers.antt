use Rattle.std.proofs.Common.{◌≡◌, ◌∙◌, inr, of_z, rules, subst, sym, to_z, ℤ}
use Rattle.std.specs.Int.{w128}
use Rattle.std.proofs.lemmas.Result.{err_from_is_err_and}
use Rattle.serde_json.specs.View.{view}
use Rattle.qap_cost.specs.Objective.{cost_of}
use Rattle.plan_check.specs.Answer.{IsListed}
use Rattle.plan_check.specs.Refusal.{StatesNoBound}
use Rattle.plan_check.proofs.answer.stated_answer.Goals as goal

pub returns-in_err-bound : goal.returns-in_err-bound
returns-in_err-bound c =
    let I = c.args.instance.now in
    let d = view c.args.value.now in
    let p = c.in_ok-permutation.permutation in
    let least = c.cost-cost.result in
    let (locations, completes) = c.in_ok-permutation.ensures in
    let listed : IsListed I c.args.fixed.now d p = record {
      locations = locations;
      permutes = record { bijection = completes.bijection; same_size = completes.same_size ∙ c.requires.same_size };
      completes = completes;
    } in
    let passed : to_z w128 (of_z w128 least) ≡ least = search rules in
    let cost : to_z w128 (of_z w128 least) ≡ cost_of I p = passed ∙ c.cost-cost.ensures.value in
    let r = err_from_is_err_and c.from_residual-in_err-bound.result c.from_residual-in_err-bound.ensures.1 in
    rw (r.1, r.2) (inr (p, listed, inr (subst (λ (z : ℤ). StatesNoBound c.args.scale d z c.in_err-bound.field-0.0) cost c.in_err-bound.ensures)))

pub returns : goal.returns
returns c =
    let I = c.args.instance.now in
    let d = view c.args.value.now in
    let p = c.in_ok-permutation.permutation in
    let least = c.cost-cost.result in
    let low = c.in_ok-bound.bound in
    let (locations, completes) = c.in_ok-permutation.ensures in
    let listed : IsListed I c.args.fixed.now d p = record {
      locations = locations;
      permutes = record { bijection = completes.bijection; same_size = completes.same_size ∙ c.requires.same_size };
      completes = completes;
    } in
    let cost : to_z w128 (of_z w128 least) ≡ least = search rules in
    let bound : to_z w128 (of_z w128 low) ≡ low = search rules in
    rw (cost, bound) (record {
      listed = listed;
      costs = sym c.cost-cost.ensures.value;
      cost = rw cost at c.in_ok-stated_cost.ensures;
      bound = rw cost at c.in_ok-bound.ensures;
    })
