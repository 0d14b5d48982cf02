-- A whole script: its lines, the answer to each, and what has been written when it ends.
use Rattle.std.specs.Prelude.{◌≡◌, ◌⊎◌, ◌<◌, ◌≤◌, ◌^◌, ◌==◌, ℕ, Bool, true, List, [], ◌∷◌, ◌++◌, Option, length, take}
use Rattle.std.specs.Io.KnownBytes.{Appends, Consumes, IsAtEnd}
use Rattle.std.specs.List.{slice_split}
use Rattle.qap_io.specs.Counting.{CountedDevice, FailedBetween}
use Rattle.qap_io.specs.Writing.{Sends}
use Rattle.space_script.specs.Command.{IsBadLine, IsBlankLine, IsCommandLine}
use Rattle.space_script.specs.Reply.{reply_text}
use Rattle.space_script.specs.Session.{Performs, SessionValue, start}
use Rattle.space_script.specs.declared.command.Command.{Command}
use Rattle.space_script.specs.declared.reply.Reply.{Reply}
use Rattle.space_script.specs.declared.reply.Reply.TheVariants.{Refused}
use Rattle.space_script.specs.declared.script_error.ScriptError.{ScriptError}
use Rattle.space_script.specs.declared.script_error.ScriptError.TheVariants.{InputTooLong, OutOfMemory, Device}

-- a byte is a line feed
abbrev pub is_line_feed : ℕ → Bool
is_line_feed byte = byte == 10

-- the lines of a script: what is before, between and after its line feeds
abbrev pub lines_of : List ℕ → List (List ℕ)
lines_of text = slice_split is_line_feed text

-- a command is executed, and its reply formatted
pub record Obeys (old : SessionValue) (line reply : List ℕ) (new : SessionValue) : Type 0 where
  pub command : Command
  pub told : Reply
  pub asked : IsCommandLine line command
  pub done : Performs old command told new
  pub is : reply ≡ reply_text told

-- From old, a line may be answered with this text and lead to new: with none if it has no words, with a refusal if it is bad.
abbrev pub Answers : SessionValue → List ℕ → List ℕ → SessionValue → Type 0
Answers old line reply new =
    (IsBlankLine line × (reply ≡ []) × (new ≡ old)) ⊎ (Obeys old line reply new ⊎ (IsBadLine line × (reply ≡ reply_text (Refused 36)) × (new ≡ old)))

-- a line is answered, and then other lines
pub record AnswersFirst (P : SessionValue → List ℕ → Type 0) (old : SessionValue) (line replies : List ℕ) : Type 0 where
  pub reply : List ℕ
  pub middle : SessionValue
  pub rest : List ℕ
  pub first : Answers old line reply middle
  pub others : P middle rest
  pub is : replies ≡ reply ++ rest

-- From old, lines may be answered with these texts, in sequence, and lead to new.
abbrev pub Runs : SessionValue → List (List ℕ) → List ℕ → SessionValue → Type 0
Runs old [] replies new = (replies ≡ []) × (new ≡ old)
Runs old (line ∷ lines) replies new = AnswersFirst (λ middle rest. Runs middle lines rest new) old line replies

-- From the start, the first lines of a text may be answered so and lead to this session; these lines are left.
pub record RunsUpTo (text replies : List ℕ) (session : SessionValue) (left : List (List ℕ)) : Type 0 where
  pub lines : List (List ℕ)
  pub split : lines_of text ≡ lines ++ left
  pub run : Runs start lines replies session

-- the most bytes of a script
abbrev pub longest_script : ℕ
longest_script = 2 ^ 62

-- a reader and a writer, before and after a call; what is known about the bytes left in the reader, and about
-- those that the writer has accepted
pub record Streams (R W : Type 0) : Type 0 where
  pub bytes_left : R → Option (List ℕ)
  pub bytes_taken : W → Option (List ℕ)
  pub reader : CountedDevice R
  pub reader_after : CountedDevice R
  pub writer : CountedDevice W
  pub writer_after : CountedDevice W

-- the same, given what is known about the bytes of either
abbrev pub streams_of : {R W : Type 0} → (R → Option (List ℕ)) → (W → Option (List ℕ)) → CountedDevice R → CountedDevice R → CountedDevice W → CountedDevice W → Streams R W
streams_of left taken reader reader_after writer writer_after =
    record { bytes_left = left; bytes_taken = taken; reader = reader; reader_after = reader_after; writer = writer; writer_after = writer_after }

-- this text came from the reader
abbrev pub HasCome : {R W : Type 0} → Streams R W → List ℕ → Type 0
HasCome s text = Consumes (s.bytes_left s.reader.inner) (s.bytes_left s.reader_after.inner) text

-- this text has been written
abbrev pub HasGoneOut : {R W : Type 0} → Streams R W → List ℕ → Type 0
HasGoneOut s text = Appends (s.bytes_taken s.writer.inner) (s.bytes_taken s.writer_after.inner) text

-- no read has failed
abbrev pub KeepsReader : {R W : Type 0} → Streams R W → Type 0
KeepsReader s = s.reader_after.failures ≡ s.reader.failures

-- no write and no flush has failed
abbrev pub KeepsWriter : {R W : Type 0} → Streams R W → Type 0
KeepsWriter s = s.writer_after.failures ≡ s.writer.failures

-- all that was written is flushed
abbrev pub IsFlushed : {R W : Type 0} → Streams R W → Type 0
IsFlushed s = s.writer_after.flushed ≡ true

-- all that the reader had left is a script; its replies have been written and flushed
pub record RunsWhole {R W : Type 0} (s : Streams R W) : Type 0 where
  pub text : List ℕ
  pub come : HasCome s text
  pub at_end : IsAtEnd (s.bytes_left s.reader_after.inner)
  pub within : length text ≤ longest_script
  pub read : KeepsReader s
  pub replies : List ℕ
  pub session : SessionValue
  pub run : Runs start (lines_of text) replies session
  pub sent : Sends s.bytes_taken s.writer s.writer_after replies

-- the lines of a text that have ended are answered, and no more; these replies have been written and flushed
pub record AnswersEnded {R W : Type 0} (s : Streams R W) (text : List ℕ) : Type 0 where
  pub replies : List ℕ
  pub session : SessionValue
  pub last : List ℕ
  pub run : RunsUpTo text replies session (last ∷ [])
  pub gone_out : HasGoneOut s replies
  pub written : KeepsWriter s
  pub flushed : s.writer.flushed ≡ true → s.writer_after.flushed ≡ true

-- more bytes came than a script may have; what came before the last of them was within the limit and is answered
pub record RunsTooLong {R W : Type 0} (s : Streams R W) : Type 0 where
  pub text : List ℕ
  pub more : List ℕ
  pub come : HasCome s (text ++ more)
  pub too_long : longest_script < length (text ++ more)
  pub within : length text ≤ longest_script
  pub read : KeepsReader s
  pub answered : AnswersEnded s text

-- a read failed; what came before it is answered
pub record FailsReading {R W : Type 0} (s : Streams R W) : Type 0 where
  pub text : List ℕ
  pub come : HasCome s text
  pub failed : FailedBetween s.reader s.reader_after
  pub answered : AnswersEnded s text

-- a line has ended: others follow, or all has been read
abbrev pub HasEnded : {R W : Type 0} → Streams R W → List (List ℕ) → Type 0
HasEnded s left = (0 < length left) ⊎ IsAtEnd (s.bytes_left s.reader_after.inner)

-- memory ran out; lines that have ended are answered, and no others
pub record WantsMemory {R W : Type 0} (s : Streams R W) : Type 0 where
  pub text : List ℕ
  pub come : HasCome s text
  pub read : KeepsReader s
  pub replies : List ℕ
  pub session : SessionValue
  pub left : List (List ℕ)
  pub some : 0 < length left
  pub run : RunsUpTo text replies session left
  pub gone_out : HasGoneOut s replies
  pub written : KeepsWriter s

-- a write or the last flush failed at the reply to a line that has ended; the lines before it are answered, and a prefix of
-- that reply has been written
pub record FailsWriting {R W : Type 0} (s : Streams R W) : Type 0 where
  pub text : List ℕ
  pub come : HasCome s text
  pub read : KeepsReader s
  pub failed : FailedBetween s.writer s.writer_after
  pub replies : List ℕ
  pub session : SessionValue
  pub line : List ℕ
  pub left : List (List ℕ)
  pub run : RunsUpTo text replies session (line ∷ left)
  pub ended : HasEnded s left
  pub reply : List ℕ
  pub after : SessionValue
  pub answer : Answers session line reply after
  pub count : ℕ
  pub gone_out : HasGoneOut s (replies ++ take count reply)

-- a flush failed; lines that have ended are answered, and no others
pub record FailsFlushing {R W : Type 0} (s : Streams R W) : Type 0 where
  pub text : List ℕ
  pub come : HasCome s text
  pub read : KeepsReader s
  pub failed : FailedBetween s.writer s.writer_after
  pub replies : List ℕ
  pub session : SessionValue
  pub left : List (List ℕ)
  pub some : 0 < length left
  pub run : RunsUpTo text replies session left
  pub gone_out : HasGoneOut s replies

-- why a script ends early: a flush may fail after what was read, or when memory ran out
abbrev pub BreaksDown : {R W : Type 0} → Streams R W → ScriptError → Type 0
BreaksDown s InputTooLong = RunsTooLong s
BreaksDown s OutOfMemory = WantsMemory s × IsFlushed s
BreaksDown s Device = FailsReading s ⊎ (FailsWriting s ⊎ FailsFlushing s)
