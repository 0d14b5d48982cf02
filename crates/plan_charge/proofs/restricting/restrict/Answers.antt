use Rattle.plan_charge.specs.Forbidding.{Forbids}
use Rattle.plan_charge.proofs.restricting.restrict.Goals as goal

pub returns : goal.returns
returns c =
    let forbids : Forbids c.args.instance.now c.args.charges.now c.args.forbidden.now c.in-Some.raised = rw c.in-Some.is at c.in_ok-raised.ensures in
    record {
      charges = c.in-Some.raised;
      forbids = forbids;
      extended = c.in_ok-larger.ensures;
      node = c.in_ok-node.ensures.extended;
      placement = c.placement_law.ensures;
      size = c.requires.size;
    }
