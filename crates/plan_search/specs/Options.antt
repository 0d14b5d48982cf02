-- The options of a search.
use Rattle.std.specs.Prelude.{◌≤◌}
use Rattle.plan_search.specs.declared.options.Options.{Options}

-- 1 to 64 workers
pub record AreLimited (o : Options) : Type 0 where
  pub some : 1 ≤ o.workers
  pub few : o.workers ≤ 64
