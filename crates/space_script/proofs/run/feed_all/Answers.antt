-- One piece after another.
use Rattle.std.proofs.Common.{◌≡◌, [], ◌++◌, length, take, refl, ◌∙◌, arith, length-append, length-take-le}
use Rattle.std.proofs.KnownBytes.{Consumes-nil, Consumes-trans}
use Rattle.std.proofs.lemmas.Result.{err_from_is_err_and}
use Rattle.space_script.specs.Feeding.{standing}
use Rattle.space_script.specs.Run.{Streams}
use Rattle.space_script.proofs.Feeds.{fed_fails, fed_none, fed_trans}
use Rattle.space_script.proofs.Runs.{fed_flushed, feeding_fails, flush_fails}
use Rattle.space_script.proofs.run.feed_all.Goals as goal

pub loop-count-init : goal.loop-count-init
loop-count-init g c = ([], Consumes-nil _, refl, refl, fed_none g.W.Write.contents (standing c.args.session.now c.args.line.now.items c.args.writer.now), λ flushed. flushed)

pub returns-then-room-count : goal.returns-then-room-count
returns-then-room-count g c =
    let stood = c.loop-count.invariant in
    let count = c.in_ok-count.count in
    let read = c.in_ok-count.ensures in
    let piece = take count c.read_some.new.buffer in
    let size : length piece ≡ count = length-take-le count c.read_some.new.buffer read.bound in
    record {
      text = stood.0;
      more = piece;
      come = Consumes-trans _ _ _ stood.0 piece stood.1 read.bytes;
      too_long = omega (arith, length-append stood.0 piece, stood.2);
      within = omega (arith, stood.2);
      read = read.count ∙ stood.3;
      fed = record {
        session_after = c.loop-count.session;
        kept_after = c.loop-count.line.items;
        fed = stood.4;
        flushed = stood.5;
      };
    }

pub loop-count-preserved : goal.loop-count-preserved
loop-count-preserved g c =
    let stood = c.loop-count.invariant in
    let count = c.in_ok-count.count in
    let read = c.in_ok-count.ensures in
    let piece = take count c.read_some.new.buffer in
    let size : length piece ≡ count = length-take-le count c.read_some.new.buffer read.bound in
    let old = standing c.args.session.now c.args.line.now.items c.args.writer.now in
    let middle = standing c.loop-count.session c.loop-count.line.items c.loop-count.writer in
    let new = standing c.feed.new.session c.feed.new.line.items c.feed.new.writer in
    let flushed = c.in_ok-finish.ensures in (
      stood.0 ++ piece,
      Consumes-trans _ _ _ stood.0 piece stood.1 read.bytes,
      omega (arith, length-append stood.0 piece, stood.2),
      read.count ∙ stood.3,
      fed_flushed g.W.Write.contents old new (stood.0 ++ piece) c.finish.new.writer
          (fed_trans g.W.Write.contents old middle new stood.0 piece stood.4 c.in_ok-feed.ensures) flushed.bytes flushed.count,
      λ before. flushed.flushed,
    )

pub returns-in_err-feed : goal.returns-in_err-feed
returns-in_err-feed g c =
    let p = err_from_is_err_and c.from_residual-in_err-feed.result c.from_residual-in_err-feed.ensures.1 in
    let stood = c.loop-count.invariant in
    let error = c.in_err-feed.field-0.0 in
    let count = c.in_ok-count.count in
    let read = c.in_ok-count.ensures in
    let piece = take count c.read_some.new.buffer in
    let old = standing c.args.session.now c.args.line.now.items c.args.writer.now in
    let middle = standing c.loop-count.session c.loop-count.line.items c.loop-count.writer in
    let s : Streams g.row.R.Denot g.row.W.Denot = record {
      bytes_left = g.R.Read.remaining;
      bytes_taken = g.W.Write.contents;
      reader = c.args.reader.now;
      reader_after = c.read_some.new.reader;
      writer = c.args.writer.now;
      writer_after = c.feed.new.writer;
    } in
    rw (p.1, p.2) (feeding_fails s c.args.session.now c.args.line.now.items (stood.0 ++ piece) error
    (Consumes-trans _ _ _ stood.0 piece stood.1 read.bytes) (read.count ∙ stood.3)
    (fed_fails g.W.Write.contents old middle stood.0 piece c.feed.new.writer error stood.4 c.in_err-feed.ensures))

pub returns-in_err-finish : goal.returns-in_err-finish
returns-in_err-finish g c =
    let p = err_from_is_err_and c.from_residual-in_err-finish.result c.from_residual-in_err-finish.ensures.1 in
    let stood = c.loop-count.invariant in
    let count = c.in_ok-count.count in
    let read = c.in_ok-count.ensures in
    let piece = take count c.read_some.new.buffer in
    let old = standing c.args.session.now c.args.line.now.items c.args.writer.now in
    let middle = standing c.loop-count.session c.loop-count.line.items c.loop-count.writer in
    let new = standing c.feed.new.session c.feed.new.line.items c.feed.new.writer in
    let s : Streams g.row.R.Denot g.row.W.Denot = record {
      bytes_left = g.R.Read.remaining;
      bytes_taken = g.W.Write.contents;
      reader = c.args.reader.now;
      reader_after = c.read_some.new.reader;
      writer = c.args.writer.now;
      writer_after = c.finish.new.writer;
    } in
    let flushed = c.in_err-finish.ensures in
    rw (p.1, p.2) (flush_fails s c.args.session.now c.args.line.now.items (stood.0 ++ piece) new
    (Consumes-trans _ _ _ stood.0 piece stood.1 read.bytes) (read.count ∙ stood.3)
    (fed_trans g.W.Write.contents old middle new stood.0 piece stood.4 c.in_ok-feed.ensures) flushed.bytes flushed.failed)
