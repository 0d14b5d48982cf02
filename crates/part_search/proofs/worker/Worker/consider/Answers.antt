use Rattle.part_search.proofs.Commits.{stage_lower}
use Rattle.part_search.proofs.worker.Worker.consider.Goals as goal

pub invariant_of-self : goal.invariant_of-self
invariant_of-self c =
    let taken = c.take_up.ensures in (
      c.self.invariant.0,
      record {
        incumbent = rw (c.instance-instance.ensures.value, c.deref.ensures) at taken.incumbent;
        stage_is = stage_lower _ _ _ _ taken.no_worse c.self.invariant.1.stage_is;
      },
    )
