use Rattle.std.proofs.Common.{◌≡◌, length, sym, ap, subst, rules}
use Rattle.std.proofs.lemmas.Result.{IfOk-weaker}
use Rattle.space_txn.specs.Content.{content_of}
use Rattle.space_txn.specs.World.{World}
use Rattle.qap_search.specs.Law.CutTree.{IsCutTree}
use Rattle.qap_search.proofs.runs.alone.worked.Goals as goal

pub returns-clause-ended : goal.returns-clause-ended
returns-clause-ended g c = λ S law.
    let left = c.into_inner-space.ensures in
    let counted : c.report.result.accepted ≡ c.into_inner-space.result.0.commits = search rules in
    IfOk-weaker c.only_run.result _ _ (λ run is. record {
      tree = subst (λ (w : World). IsCutTree S (content_of w) w.commits) (sym is.0) (law.is_cut_tree _ _ left.lawful);
      within = tt;
      counted = search rules;
    }) c.only_run.ensures

pub returns-clause-one : goal.returns-clause-one
returns-clause-one g c = IfOk-weaker c.only_run.result _ _ (λ run is. ap length is.1) c.only_run.ensures
