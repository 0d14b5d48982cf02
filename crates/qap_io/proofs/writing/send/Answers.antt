use Rattle.qap_io.proofs.Sending.{sends_or_breaks}
use Rattle.qap_io.proofs.writing.send.Goals as goal

pub returns : goal.returns
returns g c =
    let flush = c.finish.ensures in
    sends_or_breaks g.W.Write.contents c.args.writer.now c.put.new.writer c.finish.new.writer c.args.text.now c.finish.result
    c.in_ok-put.ensures.whole c.in_ok-put.ensures.count flush.bytes flush.flushed flush.count flush.failed
