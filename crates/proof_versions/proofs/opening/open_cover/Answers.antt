use Rattle.std.proofs.Common.{sym, ◌∙◌}
use Rattle.std.proofs.lemmas.Bool.{false≢true}
use Rattle.proof_versions.proofs.Verdicts.{opens-first, opens-pairs}
use Rattle.proof_versions.proofs.opening.open_cover.Goals as goal

pub returns-then-states_version_two : goal.returns-then-states_version_two
returns-then-states_version_two c =
    opens-pairs c.args.instance.now c.args.text.now c.open_cover_stream.result (c.states_version_two.ensures.0 c.if-states_version_two.true) c.open_cover_stream.ensures.opened c.open_cover_stream.ensures.refused

pub returns-else-states_version_two : goal.returns-else-states_version_two
returns-else-states_version_two c =
    opens-first c.args.instance.now c.args.text.now c.new.result (λ two. false≢true (sym c.if-states_version_two.false ∙ c.states_version_two.ensures.1 two)) c.new.ensures
