use Rattle.std.proofs.Common.{rules}
use Rattle.std.specs.Prelude.{ℕ, Option, is_some}
use Rattle.indexmap.proofs.CallerLemmas.{filter-RetainsPairs}
use Rattle.tuple_space.specs.declared.entry.Entry.{Entry}
use Rattle.tuple_space.proofs.entries.close_up.Goals as goal

pub returns-clause-entries : goal.returns-clause-entries
returns-clause-entries c = filter-RetainsPairs _ (λ (p : ℕ × Option Entry). is_some p.1) _ (λ k v b w g call. search rules) _ _ c.retain.ensures.filtered
