use Rattle.qap_io.specs.Refusal.{refusal_line}
use Rattle.qap_io.proofs.Sending.{sends_or_breaks}
use Rattle.qap_io.proofs.refusal.Refusal.send.Goals as goal

pub returns : goal.returns
returns g c =
    let flush = c.finish.ensures in
    sends_or_breaks g.W.Write.contents c.args.writer.now c.put.new.writer c.finish.new.writer (refusal_line c.args.self.now) c.finish.result
    c.in_ok-put.ensures.whole c.in_ok-put.ensures.kept flush.bytes flush.flushed flush.count flush.failed
