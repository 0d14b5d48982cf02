use Rattle.qap_cost.specs.Objective.{cost_of}
use Rattle.plan_search.proofs.Kept.{no_dearer_kept}
use Rattle.qap_plan.proofs.SplitUps.{IsSplitUp-begun}
use Rattle.qap_plan.proofs.search.splitting.split_up.Goals as goal

pub returns : goal.returns
returns g c =
    let I = c.args.searched.now.instance in
    let x = c.args.searched.now.root in
    let first = c.in_ok-first.first in
    IsSplitUp-begun I x c.args.start first c.in_ok-skeleton.skeleton.proof.cost c.split_on.result
    (no_dearer_kept I x c.args.start (cost_of I first) (cost_of I c.in_ok-own.own) c.in_ok-own.ensures.no_dearer c.in_ok-first.ensures.no_dearer)
    c.in_ok-skeleton.ensures.no_dearer c.split_on.ensures.skeleton c.split_on.ensures.no_dearer
