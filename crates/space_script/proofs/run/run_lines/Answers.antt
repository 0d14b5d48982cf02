-- All pieces, and then the last line.
use Rattle.std.proofs.Common.{ℕ, List, inl, inr, sym, subst}
use Rattle.std.proofs.lemmas.Result.{err_from_is_err_and}
use Rattle.space_script.specs.Feeding.{FedWhole, FeedingFails}
use Rattle.space_script.specs.Run.{Answers, Streams}
use Rattle.space_script.specs.Session.{SessionValue, start}
use Rattle.space_script.proofs.Runs.{stops_short, last_broken, last_sent, last_wants_memory}
use Rattle.space_script.proofs.run.run_lines.Goals as goal

pub returns-in_err-feed_all : goal.returns-in_err-feed_all
returns-in_err-feed_all g c =
    let p = err_from_is_err_and c.from_residual.result c.from_residual.ensures.1 in
    let s : Streams g.row.R.Denot g.row.W.Denot = record {
      bytes_left = g.R.Read.remaining;
      bytes_taken = g.W.Write.contents;
      reader = c.args.reader.now;
      reader_after = c.feed_all.new.reader;
      writer = c.args.writer.now;
      writer_after = c.feed_all.new.writer;
    } in
    let error = c.in_err-feed_all.field-0.0 in
    let fails = subst (λ (v : SessionValue). FeedingFails s v c.new-line.result.items error) c.new-session.ensures c.in_err-feed_all.ensures in
    rw (p.1, p.2) (stops_short s error (subst (λ (l : List ℕ). FeedingFails s start l error) c.new-line.ensures.items fails))

pub returns-in_err-reply : goal.returns-in_err-reply
returns-in_err-reply g c =
    let p = err_from_is_err_and c.from_residual-in_err-reply.result c.from_residual-in_err-reply.ensures.1 in
    let s : Streams g.row.R.Denot g.row.W.Denot = record {
      bytes_left = g.R.Read.remaining;
      bytes_taken = g.W.Write.contents;
      reader = c.args.reader.now;
      reader_after = c.feed_all.new.reader;
      writer = c.args.writer.now;
      writer_after = c.feed_all.new.writer;
    } in
    let session = c.feed_all.new.session in
    let kept = c.feed_all.new.line.items in
    let fed = subst (λ (v : SessionValue). FedWhole s v c.new-line.result.items session kept) c.new-session.ensures c.in_ok-feed_all.ensures in
    let whole = subst (λ (l : List ℕ). FedWhole s start l session kept) c.new-line.ensures.items fed in
    rw (p.1, p.2) (last_wants_memory s session kept whole)

pub returns-in_err-send : goal.returns-in_err-send
returns-in_err-send g c =
    let p = err_from_is_err_and c.from_residual-in_err-send.result c.from_residual-in_err-send.ensures.1 in
    let s : Streams g.row.R.Denot g.row.W.Denot = record {
      bytes_left = g.R.Read.remaining;
      bytes_taken = g.W.Write.contents;
      reader = c.args.reader.now;
      reader_after = c.feed_all.new.reader;
      writer = c.args.writer.now;
      writer_after = c.feed_all.new.writer;
    } in
    let session = c.feed_all.new.session in
    let kept = c.feed_all.new.line.items in
    let fed = subst (λ (v : SessionValue). FedWhole s v c.new-line.result.items session kept) c.new-session.ensures c.in_ok-feed_all.ensures in
    let whole = subst (λ (l : List ℕ). FedWhole s start l session kept) c.new-line.ensures.items fed in
    let after = c.answer.new.session in
    let reply = c.deref-2.result.now in
    let read = subst (λ (l : List ℕ). Answers session l c.in_ok-reply.reply.items after) c.deref.ensures.value c.in_ok-reply.ensures in
    let answer = subst (λ (r : List ℕ). Answers session kept r after) (sym c.deref-2.ensures.value) read in
    rw (p.1, p.2) (inr (inl (last_broken s session kept whole reply after answer c.send.new.writer c.in_err-send.ensures)))

pub returns : goal.returns
returns g c =
    let s : Streams g.row.R.Denot g.row.W.Denot = record {
      bytes_left = g.R.Read.remaining;
      bytes_taken = g.W.Write.contents;
      reader = c.args.reader.now;
      reader_after = c.feed_all.new.reader;
      writer = c.args.writer.now;
      writer_after = c.feed_all.new.writer;
    } in
    let session = c.feed_all.new.session in
    let kept = c.feed_all.new.line.items in
    let fed = subst (λ (v : SessionValue). FedWhole s v c.new-line.result.items session kept) c.new-session.ensures c.in_ok-feed_all.ensures in
    let whole = subst (λ (l : List ℕ). FedWhole s start l session kept) c.new-line.ensures.items fed in
    let after = c.answer.new.session in
    let reply = c.deref-2.result.now in
    let read = subst (λ (l : List ℕ). Answers session l c.in_ok-reply.reply.items after) c.deref.ensures.value c.in_ok-reply.ensures in
    let answer = subst (λ (r : List ℕ). Answers session kept r after) (sym c.deref-2.ensures.value) read in
    last_sent s session kept whole reply after answer c.send.new.writer c.in_ok-send.ensures
