-- The request of a command line.
use Rattle.std.specs.Prelude.{⊤}
use Rattle.plan_search.specs.Options.{AreLimited}
use Rattle.qap_plan.specs.declared.commands.command_line.Task.{Task}
use Rattle.qap_plan.specs.declared.commands.command_line.Task.TheVariants.{Solve, Split, Part, Convert, Show, Check, Compare}

-- the options of a search are within their limits
abbrev pub IsLimitedTask : Task → Type 0
IsLimitedTask (Solve r) = AreLimited r.options
IsLimitedTask (Split r) = AreLimited r.options
IsLimitedTask (Part r) = AreLimited r.options
IsLimitedTask (Convert r) = ⊤
IsLimitedTask (Show r) = ⊤
IsLimitedTask (Check r) = ⊤
IsLimitedTask (Compare r) = AreLimited r.options
