use Rattle.std.proofs.Common.{◌≡◌}
use Rattle.std.specs.Prelude.{map, take}
use Rattle.qap_search.specs.Runs.Interleaving.{report_of}
use Rattle.qap_search.proofs.runs.schedule.reports_of.Given as goal

abbrev pub invariant-loop-post : goal.invariant-loop-post
invariant-loop-post g l = l.reports.items ≡ map report_of (take l.post-index l.posts)
