use Rattle.std.proofs.lemmas.Result.{IfOk-weaker}
use Rattle.proof_versions.proofs.Streams.{StreamProves-read}
use Rattle.proof_versions.proofs.pairs.stream_stated.Goals as goal

pub returns-clause-proves : goal.returns-clause-proves
returns-clause-proves g c =
    IfOk-weaker c.accept_stated.result _ _ (λ s h. StreamProves-read c.args.instance.now (g.R.Read.remaining c.args.reader.now) s.root s.cost s.bound s.bound s.leaves.items h) c.accept_stated.ensures.stated

pub returns-clause-refused : goal.returns-clause-refused
returns-clause-refused g c = c.accept_stated.ensures.fault
