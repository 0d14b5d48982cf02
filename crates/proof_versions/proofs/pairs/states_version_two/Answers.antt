use Rattle.std.proofs.Common.{◌++◌, ◌∙◌, ap, drop, sym}
use Rattle.std.specs.Prelude.{codes}
use Rattle.std.proofs.lemmas.Bool.Decides.{Decides-eqb}
use Rattle.std.proofs.lemmas.Slice.Eq.{starts_is}
use Rattle.proof_versions.proofs.Fronts.{version_line}
use Rattle.proof_versions.proofs.pairs.states_version_two.Goals as goal

pub returns : goal.returns
returns c =
    let text = c.args.text.now in
    let is = starts_is Decides-eqb text (codes "qapproof 2\n") c.starts_with.result c.starts_with.ensures.value in
    let rest = drop 11 text in
    ((λ begins. (rest, is.0 begins ∙ ap (λ l. l ++ rest) (sym version_line))), λ states. is.1 states.0 (states.1 ∙ ap (λ l. l ++ states.0) version_line))
