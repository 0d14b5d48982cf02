use Rattle.shared_space.proofs.ContentRuns.{run_changes, run_unchanged}
use Rattle.shared_space.proofs.laws.content_run_law.Goals as goal

pub returns : goal.returns
returns g c =
    let law = g.L.Law in
    record {
      content = run_changes law.allowed law.begins law.changes c.requires law.limit;
      unchanged = run_unchanged law.allowed law.begins law.changes c.requires law.limit;
    }
