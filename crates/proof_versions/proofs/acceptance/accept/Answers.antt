use Rattle.std.proofs.Common.{sym, ◌∙◌}
use Rattle.std.proofs.lemmas.Bool.{false≢true}
use Rattle.std.proofs.lemmas.Result.{IfOk-weaker}
use Rattle.proof_versions.proofs.Verdicts.{EitherIsSo-first, EitherIsSo-pairs, shows-first, shows-pairs}
use Rattle.proof_versions.proofs.acceptance.accept.Goals as goal

pub returns-then-states_version_two-clause-verdict : goal.returns-then-states_version_two-clause-verdict
returns-then-states_version_two-clause-verdict c =
    shows-pairs c.args.instance.now c.args.text.now c.accept_pairs.result (c.states_version_two.ensures.0 c.if-states_version_two.true) c.accept_pairs.ensures.shown c.accept_pairs.ensures.refused

pub returns-else-states_version_two-clause-verdict : goal.returns-else-states_version_two-clause-verdict
returns-else-states_version_two-clause-verdict c =
    shows-first c.args.instance.now c.args.text.now c.accept.result (λ two. false≢true (sym c.if-states_version_two.false ∙ c.states_version_two.ensures.1 two)) c.accept.ensures.verdict

pub returns-then-states_version_two-clause-so : goal.returns-then-states_version_two-clause-so
returns-then-states_version_two-clause-so c =
    IfOk-weaker c.accept_pairs.result _ _ (EitherIsSo-pairs c.args.instance.now c.args.text.now) c.accept_pairs.ensures.shown

pub returns-else-states_version_two-clause-so : goal.returns-else-states_version_two-clause-so
returns-else-states_version_two-clause-so c =
    IfOk-weaker c.accept.result _ _ (EitherIsSo-first c.args.instance.now c.args.text.now) c.accept.ensures.so
