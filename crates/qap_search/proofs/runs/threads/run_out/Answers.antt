use Rattle.std.proofs.Common.{◌∙◌, sym}
use Rattle.qap_search.proofs.runs.threads.run_out.Goals as goal

pub returns-clause-ended : goal.returns-clause-ended
returns-clause-ended g c = λ S law.
    let left = c.into_inner-space.ensures in
    record {
      tree = law.is_cut_tree _ _ left.lawful;
      within = left.within;
      counted = c.left_by-shares.ensures.counted ∙ sym left.sum ∙ left.commits;
    }
