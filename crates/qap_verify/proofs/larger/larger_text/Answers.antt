use Rattle.plan_charge.specs.Forbidding.{Forbids}
use Rattle.qap_verify.proofs.larger.larger_text.Goals as goal

pub returns-in_ok-text-in-Some : goal.returns-in_ok-text-in-Some
returns-in_ok-text-in-Some c =
    let forbids : Forbids c.args.instance.now c.args.charges.now c.args.forbidden.now c.in-Some.raised = rw c.in-Some.is at c.in_ok-raised.ensures in
    record {
      charges = c.in-Some.raised;
      problem = c.in_ok-larger-in-Some.larger;
      forbids = forbids;
      extended = c.in_ok-larger-in-Some.ensures;
      is = c.in_ok-text-in-Some.ensures;
    }
