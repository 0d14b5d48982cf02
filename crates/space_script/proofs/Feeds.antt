-- Pieces of a script, one after another.
use Rattle.std.proofs.Common.{◌≡◌, ℕ, ◌<◌, List, [], ◌∷◌, ◌++◌, Option, length, take, refl, sym, ap, subst, ◌∙◌, arith, append_assoc, append-nil}
use Rattle.std.specs.Io.KnownBytes.{Appends}
use Rattle.std.proofs.KnownBytes.{Appends-nil, Appends-trans}
use Rattle.std.proofs.lemmas.List.Splits.{slice_split_at, length-slice_split}
use Rattle.qap_io.specs.Counting.{CountedDevice, last_count}
use Rattle.space_script.specs.Feeding.{HasNoLineFeed, front_of, IsUnfinished, CarriesOn, StopsAt, StopsInside, Standing, standing, Fed, FedInPart, FeedFails}
use Rattle.space_script.specs.Run.{Answers, Runs, is_line_feed, lines_of}
use Rattle.space_script.specs.Session.{SessionValue}
use Rattle.space_script.specs.declared.script_error.ScriptError.{ScriptError}
use Rattle.space_script.specs.declared.script_error.ScriptError.TheVariants.{InputTooLong, OutOfMemory, Device}
use Rattle.space_script.proofs.Fronts.{front_answers, front_more, unended_more}

-- lines are answered, and then others behind them
pub runs_trans : (xs ys : List (List ℕ)) (old middle new : SessionValue) (r s : List ℕ) → Runs old xs r middle → Runs middle ys s new → Runs old (xs ++ ys) (r ++ s) new
runs_trans [] ys old middle new r s first then =
    subst (λ t. Runs old ys (t ++ s) new) (sym first.0) (subst (λ v. Runs v ys s new) first.1 then)
runs_trans (x ∷ xs) ys old middle new r s first then = record {
  reply = first.reply;
  middle = first.middle;
  rest = first.rest ++ s;
  first = first.first;
  others = runs_trans xs ys first.middle middle new first.rest s first.others then;
  is = ap (λ t. t ++ s) first.is ∙ append_assoc first.reply first.rest s;
}

-- one line is answered
pub one_run : (line reply : List ℕ) (old new : SessionValue) → Answers old line reply new → Runs old (line ∷ []) reply new
one_run line reply old new answer = record {
  reply = reply;
  middle = new;
  rest = [];
  first = answer;
  others = (refl, refl);
  is = sym (append-nil reply);
}

some_lines : (text : List ℕ) → 0 < length (lines_of text)
some_lines text = omega (arith, length-slice_split is_line_feed text)

-- a line that ends in a piece
ended_split : (line end more : List ℕ) → HasNoLineFeed line → HasNoLineFeed end
    → lines_of (line ++ (end ++ 10 ∷ []) ++ more) ≡ (line ++ end) ∷ lines_of more
ended_split line end more left right =
    let joined : line ++ (end ++ 10 ∷ []) ++ more ≡ (line ++ end) ++ 10 ∷ more =
    ap (λ l. l ++ more) (sym (append_assoc line end (10 ∷ []))) ∙ append_assoc (line ++ end) (10 ∷ []) more in
    ap lines_of joined ∙ slice_split_at is_line_feed (line ++ end) 10 more (unended_more line end left right) refl

ended_answer : (line kept end reply : List ℕ) (old new : SessionValue) → IsUnfinished line kept → Answers old (front_of (kept ++ end)) reply new
    → Answers old (line ++ end) reply new
ended_answer line kept end reply old new unfinished answer =
    front_answers (line ++ end) reply old new (subst (λ l. Answers old l reply new) (ap (λ l. front_of (l ++ end)) unfinished.front ∙ front_more line end) answer)

-- a piece that ends the unfinished line: it is answered, and no bytes are kept
pub carries_end : (line kept end reply : List ℕ) (old new : SessionValue) → IsUnfinished line kept → HasNoLineFeed end → Answers old (front_of (kept ++ end)) reply new
    → CarriesOn line old (end ++ 10 ∷ []) reply new []
carries_end line kept end reply old new unfinished unended answer = record {
  lines = (line ++ end) ∷ [];
  last = [];
  unfinished = record {
    unended = λ k d below. absurd (omega (arith, below));
    front = refl;
  };
  split = λ more. ended_split line end more unfinished.unended unended;
  run = one_run (line ++ end) reply old new (ended_answer line kept end reply old new unfinished answer);
}

-- a piece may stop before any of its lines is answered
pub stops_at_once : (line piece : List ℕ) (old : SessionValue) → StopsAt line old piece []
stops_at_once line piece old = record {
  lines = [];
  session = old;
  split = λ more. (lines_of (line ++ piece ++ more), refl, some_lines (line ++ piece ++ more));
  run = (refl, refl);
}

-- a piece that ends the unfinished line may stop inside the answer to it
pub stops_inside_at_once : (line kept end reply : List ℕ) (old new : SessionValue) → IsUnfinished line kept → HasNoLineFeed end
    → Answers old (front_of (kept ++ end)) reply new → StopsInside line old (end ++ 10 ∷ []) [] reply
stops_inside_at_once line kept end reply old new unfinished unended answer = record {
  lines = [];
  session = old;
  asked = line ++ end;
  after = new;
  split = λ more. (lines_of more, ended_split line end more unfinished.unended unended, some_lines more);
  run = (refl, refl);
  answer = ended_answer line kept end reply old new unfinished answer;
}

-- a piece in which no line ends
pub carries_none : (line kept piece : List ℕ) (old : SessionValue) → IsUnfinished line kept → HasNoLineFeed piece
    → CarriesOn line old piece [] old (front_of (kept ++ piece))
carries_none line kept piece old unfinished unended = record {
  lines = [];
  last = line ++ piece;
  unfinished = record {
    unended = unended_more line piece unfinished.unended unended;
    front = ap (λ l. front_of (l ++ piece)) unfinished.front ∙ front_more line piece;
  };
  split = λ more. refl;
  run = (refl, refl);
}

rejoined : (line p q more : List ℕ) → line ++ (p ++ q) ++ more ≡ line ++ p ++ (q ++ more)
rejoined line p q more = ap (λ l. l ++ more) (sym (append_assoc line p q)) ∙ append_assoc (line ++ p) q more

-- lines of a piece behind which others stop
further : (line p q kept more : List ℕ) (r : List ℕ) (old middle : SessionValue) (first : CarriesOn line old p r middle kept) (lines left : List (List ℕ))
    → lines_of (first.last ++ q ++ more) ≡ lines ++ left → lines_of (line ++ (p ++ q) ++ more) ≡ (first.lines ++ lines) ++ left
further line p q kept more r old middle first lines left split =
    ap lines_of (rejoined line p q more) ∙ first.split (q ++ more)
    ∙ ap (λ l. first.lines ++ l) (ap lines_of (sym (append_assoc first.last q more)) ∙ split) ∙ sym (append_assoc first.lines lines left)

carries_trans : (line p q r s kept after : List ℕ) (old middle new : SessionValue) → CarriesOn line old p r middle kept
    → ((last : List ℕ) → IsUnfinished last kept → CarriesOn last middle q s new after) → CarriesOn line old (p ++ q) (r ++ s) new after
carries_trans line p q r s kept after old middle new first next =
    let then = next first.last first.unfinished in
    record {
      lines = first.lines ++ then.lines;
      last = then.last;
      unfinished = then.unfinished;
      split = λ more.
          further line p q kept more r old middle first then.lines (lines_of (then.last ++ more)) (then.split more);
      run = runs_trans first.lines then.lines old middle new r s first.run then.run;
    }

stops_trans : (line p q r s kept : List ℕ) (old middle : SessionValue) → CarriesOn line old p r middle kept
    → ((last : List ℕ) → IsUnfinished last kept → StopsAt last middle q s) → StopsAt line old (p ++ q) (r ++ s)
stops_trans line p q r s kept old middle first next =
    let then = next first.last first.unfinished in
    record {
      lines = first.lines ++ then.lines;
      session = then.session;
      split = λ more.
          let rest = then.split more in
          (rest.0, further line p q kept more r old middle first then.lines rest.0 rest.1, rest.2);
      run = runs_trans first.lines then.lines old middle then.session r s first.run then.run;
    }

inside_trans : (line p q r s reply kept : List ℕ) (old middle : SessionValue) → CarriesOn line old p r middle kept
    → ((last : List ℕ) → IsUnfinished last kept → StopsInside last middle q s reply) → StopsInside line old (p ++ q) (r ++ s) reply
inside_trans line p q r s reply kept old middle first next =
    let then = next first.last first.unfinished in
    record {
      lines = first.lines ++ then.lines;
      session = then.session;
      asked = then.asked;
      after = then.after;
      split = λ more.
          let rest = then.split more in
          (rest.0, further line p q kept more r old middle first then.lines (then.asked ∷ rest.0) rest.1, rest.2);
      run = runs_trans first.lines then.lines old middle then.session r s first.run then.run;
      answer = then.answer;
    }

-- nothing has been read
pub fed_none : {W : Type 0} (contents : W → Option (List ℕ)) (old : Standing W) → Fed contents old [] old
fed_none contents old = record {
  replies = [];
  gone_out = Appends-nil (contents old.writer.inner);
  written = refl;
  carries = λ line unfinished. record {
    lines = [];
    last = line;
    unfinished = unfinished;
    split = λ more. ap (λ l. lines_of (l ++ more)) (append-nil line);
    run = (refl, refl);
  };
}

-- a piece has been read, and then another behind it
pub fed_trans : {W : Type 0} (contents : W → Option (List ℕ)) (old middle new : Standing W) (p q : List ℕ) → Fed contents old p middle → Fed contents middle q new
    → Fed contents old (p ++ q) new
fed_trans contents old middle new p q first then = record {
  replies = first.replies ++ then.replies;
  gone_out = Appends-trans _ _ _ first.replies then.replies first.gone_out then.gone_out;
  written = then.written ∙ first.written;
  carries = λ line unfinished.
      carries_trans line p q first.replies then.replies middle.kept new.kept old.session middle.session new.session (first.carries line unfinished) then.carries;
}

-- a piece has been read, and one behind it fails
pub fed_fails : {W : Type 0} (contents : W → Option (List ℕ)) (old middle : Standing W) (p q : List ℕ) (writer : CountedDevice W) (e : ScriptError)
    → Fed contents old p middle → FeedFails contents middle q writer e → FeedFails contents old (p ++ q) writer e
fed_fails contents old middle p q writer InputTooLong first then = then
fed_fails contents old middle p q writer OutOfMemory first then = record {
  replies = first.replies ++ then.replies;
  gone_out = Appends-trans _ _ _ first.replies then.replies first.gone_out then.gone_out;
  written = then.written ∙ first.written;
  stops = λ line unfinished.
      stops_trans line p q first.replies then.replies middle.kept old.session middle.session (first.carries line unfinished) then.stops;
}
fed_fails contents old middle p q writer Device first then = record {
  replies = first.replies ++ then.replies;
  reply = then.reply;
  count = then.count;
  gone_out =
      subst (Appends (contents old.writer.inner) (contents writer.inner)) (sym (append_assoc first.replies then.replies (take then.count then.reply)))
      (Appends-trans _ _ _ first.replies (then.replies ++ take then.count then.reply) first.gone_out then.gone_out);
  failed = subst (λ (k : ℕ). writer.failures < last_count → k < writer.failures) first.written then.failed;
  stops = λ line unfinished.
      inside_trans line p q first.replies then.replies then.reply middle.kept old.session middle.session (first.carries line unfinished) then.stops;
}

-- what a piece comes to, where more is read behind it
pub fails_longer : {W : Type 0} (contents : W → Option (List ℕ)) (old : Standing W) (p q : List ℕ) (writer : CountedDevice W) (e : ScriptError)
    → FeedFails contents old p writer e → FeedFails contents old (p ++ q) writer e
fails_longer contents old p q writer InputTooLong failed = failed
fails_longer contents old p q writer OutOfMemory failed = record {
  replies = failed.replies;
  gone_out = failed.gone_out;
  written = failed.written;
  stops = λ line unfinished.
      let stops = failed.stops line unfinished in
      record {
        lines = stops.lines;
        session = stops.session;
        split = λ more.
            let rest = stops.split (q ++ more) in
            (rest.0, ap lines_of (rejoined line p q more) ∙ rest.1, rest.2);
        run = stops.run;
      };
}
fails_longer contents old p q writer Device failed = record {
  replies = failed.replies;
  reply = failed.reply;
  count = failed.count;
  gone_out = failed.gone_out;
  failed = failed.failed;
  stops = λ line unfinished.
      let stops = failed.stops line unfinished in
      record {
        lines = stops.lines;
        session = stops.session;
        asked = stops.asked;
        after = stops.after;
        split = λ more.
            let rest = stops.split (q ++ more) in
            (rest.0, ap lines_of (rejoined line p q more) ∙ rest.1, rest.2);
        run = stops.run;
        answer = stops.answer;
      };
}

-- memory runs out before a piece is answered
pub fed_at_once : {W : Type 0} (contents : W → Option (List ℕ)) (old : Standing W) (piece : List ℕ) → FedInPart contents old piece old.writer
fed_at_once contents old piece = record {
  replies = [];
  gone_out = Appends-nil (contents old.writer.inner);
  written = refl;
  stops = λ line unfinished. stops_at_once line piece old.session;
}

-- no line ends in a piece
pub fed_unended : {W : Type 0} (contents : W → Option (List ℕ)) (old : Standing W) (piece : List ℕ) → HasNoLineFeed piece
    → Fed contents old piece (standing old.session (front_of (old.kept ++ piece)) old.writer)
fed_unended contents old piece unended = record {
  replies = [];
  gone_out = Appends-nil (contents old.writer.inner);
  written = refl;
  carries = λ line unfinished. carries_none line old.kept piece old.session unfinished unended;
}

-- a piece of which one line more has been read
pub line_further : (piece done rest before behind : List ℕ) → piece ≡ done ++ rest → rest ≡ before ++ 10 ∷ behind → piece ≡ done ++ (before ++ 10 ∷ []) ++ behind
line_further piece done rest before behind is cut =
    is ∙ ap (λ l. done ++ l) (cut ∙ sym (append_assoc before (10 ∷ []) behind)) ∙ sym (append_assoc done (before ++ 10 ∷ []) behind)
