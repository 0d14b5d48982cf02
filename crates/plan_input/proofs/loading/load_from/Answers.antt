use Rattle.std.proofs.Common.{subst}
use Rattle.std.proofs.lemmas.Result.{IfOk-weaker}
use Rattle.plan_input.specs.Loaded.{IsLoaded, IsMadeOf, IsTableIn}
use Rattle.plan_input.proofs.loading.load_from.Goals as goal

pub returns-clause-loaded : goal.returns-clause-loaded
returns-clause-loaded g c =
    let plan = c.in_ok-plan.plan in
    let flows = c.in_ok-flows.flows in
    let distances = c.in_ok-distances.distances in
    let holds = g.T.Texts.holds c.args.texts.now in
    let file = c.args.file.now in
    IfOk-weaker c.problem_of.result (IsMadeOf plan flows distances c.in_ok-costs.costs) (IsLoaded holds file) (λ l made. record {
      plan = plan;
      flows = flows;
      distances = distances;
      costs = c.in_ok-costs.costs;
      plan_read = c.in_ok-plan.ensures.plan;
      flows_read = subst (λ name. IsTableIn holds file name flows) c.flows_name.ensures c.in_ok-flows.ensures;
      distances_read = subst (λ name. IsTableIn holds file name distances) c.distances_name.ensures c.in_ok-distances.ensures;
      costs_read = c.in_ok-costs.ensures;
      made = made;
    }) c.problem_of.ensures.made
