use Rattle.std.proofs.Common.{refl}
use Rattle.std.proofs.lemmas.Result.{IfErr-weaker}
use Rattle.proof_versions.proofs.pairs.accept_pairs.Goals as goal

pub returns-clause-refused : goal.returns-clause-refused
returns-clause-refused c = IfErr-weaker c.accept.result _ _ (λ e h v shows. h c.args.text.now v refl shows) c.accept.ensures.refused
