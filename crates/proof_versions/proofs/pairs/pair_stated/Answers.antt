use Rattle.std.proofs.Common.{refl}
use Rattle.std.proofs.lemmas.Result.{IfErr-weaker, IfOk-weaker}
use Rattle.proof_versions.proofs.Streams.{PairProvesFor-known}
use Rattle.proof_versions.proofs.pairs.pair_stated.Goals as goal

pub returns-clause-proves : goal.returns-clause-proves
returns-clause-proves c =
    IfOk-weaker c.accept_stated.result _ _ (λ s h. PairProvesFor-known c.args.instance.now c.args.text.now s.root s.cost s.bound s.bound s.leaves.items h) c.accept_stated.ensures.stated

pub returns-clause-refused : goal.returns-clause-refused
returns-clause-refused c = IfErr-weaker c.accept_stated.result _ _ (λ e h v shows. h c.args.text.now v refl shows) c.accept_stated.ensures.refused
