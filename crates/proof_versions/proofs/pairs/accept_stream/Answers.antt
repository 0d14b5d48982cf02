use Rattle.std.proofs.lemmas.Result.{IfOk-weaker}
use Rattle.proof_versions.proofs.Streams.{IsLimitedVerdict-read, StreamShows-read}
use Rattle.proof_versions.proofs.pairs.accept_stream.Goals as goal

pub returns-clause-shown : goal.returns-clause-shown
returns-clause-shown g c =
    IfOk-weaker c.accept.result _ _ (StreamShows-read c.args.instance.now (g.R.Read.remaining c.args.reader.now)) c.accept.ensures.verdict

pub returns-clause-bounded : goal.returns-clause-bounded
returns-clause-bounded g c =
    IfOk-weaker c.accept.result _ _ (IsLimitedVerdict-read c.args.instance.now (g.R.Read.remaining c.args.reader.now)) c.accept.ensures.verdict

pub returns-clause-refused : goal.returns-clause-refused
returns-clause-refused g c = c.accept.ensures.fault
