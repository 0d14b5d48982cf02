use Rattle.std.proofs.Common.{inl}
use Rattle.plan_files.proofs.instance_file.searched_in.Goals as goal

pub returns-in-Ok-clause-searched : goal.returns-in-Ok-clause-searched
returns-in-Ok-clause-searched g c = inl (record {
  loaded = c.in_ok-loaded.loaded;
  is_loaded = c.in_ok-loaded.ensures.loaded;
  of_plan = c.in-Ok.ensures.searched;
})
