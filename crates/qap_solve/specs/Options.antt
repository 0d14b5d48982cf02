-- The limits of what may be requested.
use Rattle.std.specs.Prelude.{◌<◌, ◌≤◌, ◌^◌, ℕ, Option, IfSome}
use Rattle.qap_solve.specs.declared.command_line.Request.{Request}
use Rattle.qap_solve.specs.declared.command_line.Request.TheVariants.{Solve, Script}
use Rattle.qap_solve.specs.declared.options.Options.{Options}

-- a node limit, if there is one, is at most 2^62
abbrev pub AreCountable : Option ℕ → Type 0
AreCountable nodes = IfSome nodes (λ n. n ≤ 2 ^ 62)

-- 1 to 64 workers, and leases of 1 ms to a day
pub record AreLimited (o : Options) : Type 0 where
  pub some : 0 < o.workers
  pub few : o.workers ≤ 64
  pub leased : 0 < o.lease_ms
  pub short : o.lease_ms ≤ 86400000
  pub countable : AreCountable o.nodes

-- the request is within its limits
abbrev pub MayRun : Request → Type 0
MayRun (Solve options) = AreLimited options
MayRun Script = Unit {0}
