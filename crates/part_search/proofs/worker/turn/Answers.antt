use Rattle.part_search.proofs.worker.turn.Goals as goal

pub returns-in-Idle-clause-worker : goal.returns-in-Idle-clause-worker
returns-in-Idle-clause-worker g c = record { incumbent = c.requires.worker.incumbent; stage_is = c.begin.ensures.stage c.args.ground.now c.args.incumbent.now.cost }

pub returns-in-Begun-clause-worker : goal.returns-in-Begun-clause-worker
returns-in-Begun-clause-worker g c = record { incumbent = c.requires.worker.incumbent; stage_is = c.take_node.ensures.stage c.args.ground.now c.args.incumbent.now.cost }

pub returns-in-Taken-clause-worker : goal.returns-in-Taken-clause-worker
returns-in-Taken-clause-worker g c = record { incumbent = c.requires.worker.incumbent; stage_is = c.abort.ensures.stage c.args.ground.now c.args.incumbent.now.cost }

pub returns-in-Ready-clause-worker : goal.returns-in-Ready-clause-worker
returns-in-Ready-clause-worker g c =
    record { incumbent = c.requires.worker.incumbent; stage_is = rw c.instance-instance.ensures.value at (c.commit.ensures.stage c.args.incumbent.now.cost) }

pub returns-in-GivingUp-clause-worker : goal.returns-in-GivingUp-clause-worker
returns-in-GivingUp-clause-worker g c = record { incumbent = c.requires.worker.incumbent; stage_is = c.abort-in-GivingUp.ensures.stage c.args.ground.now c.args.incumbent.now.cost }
