use Rattle.std.proofs.Common.{◌≡◌, ap, ◌++◌, take, length, arith, length-append, length-take-le}
use Rattle.std.proofs.KnownBytes.{Consumes-trans}
use Rattle.qap_text.proofs.whole.read_behind.Goals as goal

pub returns-then-limit-len : goal.returns-then-limit-len
returns-then-limit-len g c =
    let rest = c.loop-bytes.invariant.0 in
    let count = c.in_ok-count.count in
    let read = c.in_ok-count.ensures in
    let piece : length (take count c.read_some.new.buffer) ≡ count = length-take-le count c.read_some.new.buffer read.bound in
    record {
      text = rest ++ take count c.read_some.new.buffer;
      bytes = Consumes-trans _ _ _ _ _ c.loop-bytes.invariant.3 read.bytes;
      too_long = omega (arith, length-append rest (take count c.read_some.new.buffer), length-append c.args.front.items rest, ap length c.loop-bytes.invariant.1, c.len.ensures);
      kept = cc (c.loop-bytes.invariant.4, read.count);
    }
