use Rattle.part_search.proofs.steps.told_found.Goals as goal

pub returns-in-Entry-clause-stage : goal.returns-in-Entry-clause-stage
returns-in-Entry-clause-stage c = c.told_written.ensures.stage c.args.instance.now c.write_best-written.new.incumbent.cost c.write_best-written.ensures.may
