use Rattle.std.proofs.Common.{◌≡◌, ◌∙◌, ap, of_z, rules, subst, sym, to_z, ℤ}
use Rattle.std.specs.Int.{w128}
use Rattle.serde_json.specs.View.{view}
use Rattle.plan_check.specs.Answer.{IsBoundStated}
use Rattle.plan_check.proofs.written.states_bound.Goals as goal

pub returns-then-stated-bound : goal.returns-then-stated-bound
returns-then-stated-bound c = λ _.
    let stated = c.in_ok-stated.stated in
    let read : to_z w128 (of_z w128 stated) ≡ stated = search rules in
    let given : to_z w128 (of_z w128 c.args.bound) ≡ c.args.bound = search rules in
    let cost : to_z w128 (of_z w128 c.args.cost) ≡ c.args.cost = search rules in
    let same = sym read ∙ ap (to_z w128) c.if-stated-bound.true ∙ given in
    subst (λ (g : ℤ). IsBoundStated c.args.scale (view c.args.value.now) c.args.cost g) same (rw cost at c.in_ok-stated.ensures)
