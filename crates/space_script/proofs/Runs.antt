-- A script read to its end, or broken off, from what its pieces come to.
use Rattle.std.proofs.Common.{Option, ◌≡◌, ℕ, ◌<◌, List, [], ◌∷◌, ◌++◌, take, inl, inr, refl, sym, ap, subst, ◌∙◌, arith, append-nil}
use Rattle.std.specs.Io.KnownBytes.{Keeps}
use Rattle.std.proofs.KnownBytes.{Appends-kept, Appends-trans}
use Rattle.std.proofs.lemmas.List.Splits.{slice_split_none}
use Rattle.qap_io.specs.Counting.{CountedDevice, FailedBetween, last_count}
use Rattle.qap_io.specs.Writing.{Sends, BreaksOff}
use Rattle.space_script.specs.Feeding.{Standing, Fed, CarriesOn, IsUnfinished, FedUpTo, FedWhole, FeedFails, FeedingFails, StopsShort, standing}
use Rattle.space_script.specs.Run.{Answers, AnswersEnded, FailsWriting, HasCome, KeepsReader, Runs, RunsUpTo, RunsWhole, Streams, WantsMemory, is_line_feed, lines_of}
use Rattle.space_script.specs.Session.{SessionValue, start}
use Rattle.space_script.specs.declared.script_error.ScriptError.{ScriptError}
use Rattle.space_script.specs.declared.script_error.ScriptError.TheVariants.{InputTooLong, OutOfMemory, Device}
use Rattle.space_script.proofs.Feeds.{one_run, runs_trans}
use Rattle.space_script.proofs.Fronts.{front_answers}

-- a piece that has been read fails, and so does the reading
pub feeding_fails : {R W : Type 0} (s : Streams R W) (session : SessionValue) (kept text : List ℕ) (e : ScriptError) → HasCome s text → KeepsReader s
    → FeedFails s.bytes_taken (standing session kept s.writer) text s.writer_after e → FeedingFails s session kept e
feeding_fails s session kept text InputTooLong come read fails = absurd fails
feeding_fails s session kept text OutOfMemory come read fails = record {
  text = text;
  come = come;
  read = read;
  fails = fails;
}
feeding_fails s session kept text Device come read fails = inr (inl (record {
  text = text;
  come = come;
  read = read;
  fails = fails;
}))

-- a piece more has been read, and then a flush fails
pub flush_fails : {R W : Type 0} (s : Streams R W) (session : SessionValue) (kept text : List ℕ) (fed : Standing W) → HasCome s text → KeepsReader s
    → Fed s.bytes_taken (standing session kept s.writer) text fed → Keeps (s.bytes_taken fed.writer.inner) (s.bytes_taken s.writer_after.inner)
    → FailedBetween fed.writer s.writer_after → FeedingFails s session kept Device
flush_fails s session kept text fed come read all keeps failed = inr (inr (record {
  text = text;
  come = come;
  read = read;
  failed = subst (λ (k : ℕ). s.writer_after.failures < last_count → k < s.writer_after.failures) all.written failed;
  replies = all.replies;
  gone_out = Appends-kept (s.bytes_taken s.writer.inner) (s.bytes_taken fed.writer.inner) (s.bytes_taken s.writer_after.inner) all.replies all.gone_out keeps;
  session_after = fed.session;
  kept_after = fed.kept;
  carries = all.carries;
}))

-- a piece has been read, and then flushed
pub fed_flushed : {W : Type 0} (contents : W → Option (List ℕ)) (old new : Standing W) (piece : List ℕ) (writer : CountedDevice W) → Fed contents old piece new
    → Keeps (contents new.writer.inner) (contents writer.inner) → writer.failures ≡ new.writer.failures → Fed contents old piece (standing new.session new.kept writer)
fed_flushed contents old new piece writer fed keeps written = record {
  replies = fed.replies;
  gone_out = Appends-kept (contents old.writer.inner) (contents new.writer.inner) (contents writer.inner) fed.replies fed.gone_out keeps;
  written = written ∙ fed.written;
  carries = fed.carries;
}

-- before the first line
opened : IsUnfinished [] []
opened = record {
  unended = λ k d below. absurd (omega (arith, below));
  front = refl;
}

-- all lines but the last have ended
all_lines : (text replies kept : List ℕ) (session : SessionValue) (c : CarriesOn [] start text replies session kept) → lines_of text ≡ c.lines ++ c.last ∷ []
all_lines text replies kept session c =
    ap lines_of (sym (append-nil text)) ∙ c.split [] ∙ ap (λ l. c.lines ++ lines_of l) (append-nil c.last)
    ∙ ap (λ l. c.lines ++ l) (slice_split_none is_line_feed c.last c.unfinished.unended)

up_to : (text replies kept : List ℕ) (session : SessionValue) (c : CarriesOn [] start text replies session kept) → RunsUpTo text replies session (c.last ∷ [])
up_to text replies kept session c = record {
  lines = c.lines;
  split = all_lines text replies kept session c;
  run = c.run;
}

answered : {R W : Type 0} (s : Streams R W) (text : List ℕ) → FedUpTo s start [] text → AnswersEnded s text
answered s text up =
    let c = up.fed.carries [] opened in
    record {
      replies = up.fed.replies;
      session = up.session_after;
      last = c.last;
      run = up_to text up.fed.replies up.kept_after up.session_after c;
      gone_out = up.fed.gone_out;
      written = up.fed.written;
      flushed = up.flushed;
    }

-- what stops the reading stops the script
pub stops_short : {R W : Type 0} (s : Streams R W) (e : ScriptError) → FeedingFails s start [] e → StopsShort s e
stops_short s InputTooLong fails = record {
  text = fails.text;
  more = fails.more;
  come = fails.come;
  too_long = fails.too_long;
  within = fails.within;
  read = fails.read;
  answered = answered s fails.text fails.fed;
}
stops_short s OutOfMemory fails =
    let stops = fails.fails.stops [] opened in
    let rest = stops.split [] in
    record {
      text = fails.text;
      come = fails.come;
      read = fails.read;
      replies = fails.fails.replies;
      session = stops.session;
      left = rest.0;
      some = rest.2;
      run = record {
        lines = stops.lines;
        split = ap lines_of (sym (append-nil fails.text)) ∙ rest.1;
        run = stops.run;
      };
      gone_out = fails.fails.gone_out;
      written = fails.fails.written;
    }
stops_short s Device (inl unread) = inl (record {
  text = unread.text;
  come = unread.come;
  failed = unread.failed;
  answered = answered s unread.text unread.fed;
})
stops_short s Device (inr (inl fails)) =
    let stops = fails.fails.stops [] opened in
    let rest = stops.split [] in
    inr (inl (record {
      text = fails.text;
      come = fails.come;
      read = fails.read;
      failed = fails.fails.failed;
      replies = fails.fails.replies;
      session = stops.session;
      line = stops.asked;
      left = rest.0;
      run = record {
        lines = stops.lines;
        split = ap lines_of (sym (append-nil fails.text)) ∙ rest.1;
        run = stops.run;
      };
      ended = inl rest.2;
      reply = fails.fails.reply;
      after = stops.after;
      answer = stops.answer;
      count = fails.fails.count;
      gone_out = fails.fails.gone_out;
    }))
stops_short s Device (inr (inr unflushed)) =
    let c = unflushed.carries [] opened in
    inr (inr (record {
      text = unflushed.text;
      come = unflushed.come;
      read = unflushed.read;
      failed = unflushed.failed;
      replies = unflushed.replies;
      session = unflushed.session_after;
      left = c.last ∷ [];
      some = omega arith;
      run = up_to unflushed.text unflushed.replies unflushed.kept_after unflushed.session_after c;
      gone_out = unflushed.gone_out;
    }))

module _ {R W : Type 0} (s : Streams R W) (session : SessionValue) (kept : List ℕ) (whole : FedWhole s start [] session kept) where
  last_line : CarriesOn [] start whole.text whole.fed.replies session kept
  last_line = whole.fed.carries [] opened

  last_answer : (reply : List ℕ) (after : SessionValue) → Answers session kept reply after → Answers session last_line.last reply after
  last_answer reply after answer =
      front_answers last_line.last reply session after (subst (λ l. Answers session l reply after) last_line.unfinished.front answer)

  -- memory runs out at the last line
  pub last_wants_memory : WantsMemory s
  last_wants_memory = record {
    text = whole.text;
    come = whole.come;
    read = whole.read;
    replies = whole.fed.replies;
    session = session;
    left = last_line.last ∷ [];
    some = omega arith;
    run = up_to whole.text whole.fed.replies kept session last_line;
    gone_out = whole.fed.gone_out;
    written = whole.fed.written;
  }

-- the streams once the last reply has been written
abbrev pub then_written : {R W : Type 0} → Streams R W → CountedDevice W → Streams R W
then_written s writer = record {
  bytes_left = s.bytes_left;
  bytes_taken = s.bytes_taken;
  reader = s.reader;
  reader_after = s.reader_after;
  writer = s.writer;
  writer_after = writer;
}

module _ {R W : Type 0} (s : Streams R W) (session : SessionValue) (kept : List ℕ) (whole : FedWhole s start [] session kept) (reply : List ℕ) (after : SessionValue)
    (answer : Answers session kept reply after) (writer : CountedDevice W) where
  pub last_sent : Sends s.bytes_taken s.writer_after writer reply → RunsWhole (then_written s writer)
  last_sent sent =
      let c = last_line s session kept whole in
      record {
        text = whole.text;
        come = whole.come;
        at_end = whole.at_end;
        within = whole.within;
        read = whole.read;
        replies = whole.fed.replies ++ reply;
        session = after;
        run = subst (λ lines. Runs start lines (whole.fed.replies ++ reply) after) (sym (all_lines whole.text whole.fed.replies kept session c))
            (runs_trans c.lines (c.last ∷ []) start session after whole.fed.replies reply c.run (one_run c.last reply session after (last_answer s session kept whole reply after answer)));
        sent = record {
          bytes = Appends-trans (s.bytes_taken s.writer.inner) (s.bytes_taken s.writer_after.inner) (s.bytes_taken writer.inner) whole.fed.replies reply whole.fed.gone_out sent.bytes;
          flushed = sent.flushed;
          kept = sent.kept ∙ whole.fed.written;
        };
      }

  pub last_broken : BreaksOff s.bytes_taken s.writer_after writer reply → FailsWriting (then_written s writer)
  last_broken broken =
      let c = last_line s session kept whole in
      record {
        text = whole.text;
        come = whole.come;
        read = whole.read;
        failed = subst (λ (k : ℕ). writer.failures < last_count → k < writer.failures) whole.fed.written broken.failed;
        replies = whole.fed.replies;
        session = session;
        line = c.last;
        left = [];
        run = up_to whole.text whole.fed.replies kept session c;
        ended = inr whole.at_end;
        reply = reply;
        after = after;
        answer = last_answer s session kept whole reply after answer;
        count = broken.bytes.0;
        gone_out = Appends-trans (s.bytes_taken s.writer.inner) (s.bytes_taken s.writer_after.inner) (s.bytes_taken writer.inner) whole.fed.replies (take broken.bytes.0 reply) whole.fed.gone_out broken.bytes.1;
      }
