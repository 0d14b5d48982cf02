-- Reading a piece of a script: the lines that end in it are answered, and what is left after them is kept.
use Rattle.std.specs.Prelude.{◌≡◌, ◌⊎◌, ◌<◌, ◌≤◌, ◌+◌, ℕ, false, true, List, ◌∷◌, ◌++◌, All, Option, length, take}
use Rattle.std.specs.Io.KnownBytes.{Appends, IsAtEnd}
use Rattle.qap_io.specs.Counting.{CountedDevice, FailedBetween}
use Rattle.space_script.specs.Command.{longest_line}
use Rattle.space_script.specs.Run.{Answers, FailsFlushing, FailsReading, FailsWriting, HasCome, HasGoneOut, KeepsReader, Runs, RunsTooLong, Streams, WantsMemory, is_line_feed, lines_of, longest_script}
use Rattle.space_script.specs.Session.{SessionValue}
use Rattle.space_script.specs.declared.script_error.ScriptError.{ScriptError}
use Rattle.space_script.specs.declared.script_error.ScriptError.TheVariants.{InputTooLong, OutOfMemory, Device}

-- no byte of a text is a line feed
abbrev pub HasNoLineFeed : List ℕ → Type 0
HasNoLineFeed text = All (λ byte. is_line_feed byte ≡ false) text

-- text up to its first line feed, and after it
pub record IsCut (text before behind : List ℕ) : Type 0 where
  pub unended : HasNoLineFeed before
  pub is : text ≡ before ++ 10 ∷ behind

-- as much of a line as is needed to see that it is too long
abbrev pub front_of : List ℕ → List ℕ
front_of line = take (longest_line + 1) line

-- the beginning of a line that has not ended
pub record IsUnfinished (line kept : List ℕ) : Type 0 where
  pub unended : HasNoLineFeed line
  pub front : kept ≡ front_of line

-- After an unfinished line, a piece is answered so, and another unfinished line is kept.
pub record CarriesOn (line : List ℕ) (old : SessionValue) (piece replies : List ℕ) (new : SessionValue) (kept : List ℕ) : Type 0 where
  pub lines : List (List ℕ)
  pub last : List ℕ
  pub unfinished : IsUnfinished last kept
  pub split : (more : List ℕ) → lines_of (line ++ piece ++ more) ≡ lines ++ lines_of (last ++ more)
  pub run : Runs old lines replies new

-- After an unfinished line, lines that end in a piece, or in more, are answered so, and lines are left.
pub record StopsAt (line : List ℕ) (old : SessionValue) (piece replies : List ℕ) : Type 0 where
  pub lines : List (List ℕ)
  pub session : SessionValue
  pub split : (more : List ℕ) → (left : List (List ℕ)) × (lines_of (line ++ piece ++ more) ≡ lines ++ left) × (0 < length left)
  pub run : Runs old lines replies session

-- After an unfinished line, lines that end in a piece are answered so, and then comes this answer to the next line that does.
pub record StopsInside (line : List ℕ) (old : SessionValue) (piece replies reply : List ℕ) : Type 0 where
  pub lines : List (List ℕ)
  pub session : SessionValue
  pub asked : List ℕ
  pub after : SessionValue
  pub split : (more : List ℕ) → (left : List (List ℕ)) × (lines_of (line ++ piece ++ more) ≡ lines ++ asked ∷ left) × (0 < length left)
  pub run : Runs old lines replies session
  pub answer : Answers session asked reply after

-- the session, what is kept of an unfinished line, and the writer
pub record Standing (W : Type 0) : Type 0 where
  pub session : SessionValue
  pub kept : List ℕ
  pub writer : CountedDevice W

-- a session, what is kept of an unfinished line, and a writer, together
abbrev pub standing : {W : Type 0} → SessionValue → List ℕ → CountedDevice W → Standing W
standing session kept writer = record { session = session; kept = kept; writer = writer }

-- a piece has been read, and its replies have been written
pub record Fed {W : Type 0} (contents : W → Option (List ℕ)) (old : Standing W) (piece : List ℕ) (new : Standing W) : Type 0 where
  pub replies : List ℕ
  pub gone_out : Appends (contents old.writer.inner) (contents new.writer.inner) replies
  pub written : new.writer.failures ≡ old.writer.failures
  pub carries : (line : List ℕ) → IsUnfinished line old.kept → CarriesOn line old.session piece replies new.session new.kept

-- memory ran out in a piece
pub record FedInPart {W : Type 0} (contents : W → Option (List ℕ)) (old : Standing W) (piece : List ℕ) (writer : CountedDevice W) : Type 0 where
  pub replies : List ℕ
  pub gone_out : Appends (contents old.writer.inner) (contents writer.inner) replies
  pub written : writer.failures ≡ old.writer.failures
  pub stops : (line : List ℕ) → IsUnfinished line old.kept → StopsAt line old.session piece replies

-- a write failed in a piece
pub record FedUnheard {W : Type 0} (contents : W → Option (List ℕ)) (old : Standing W) (piece : List ℕ) (writer : CountedDevice W) : Type 0 where
  pub replies : List ℕ
  pub reply : List ℕ
  pub count : ℕ
  pub gone_out : Appends (contents old.writer.inner) (contents writer.inner) (replies ++ take count reply)
  pub failed : FailedBetween old.writer writer
  pub stops : (line : List ℕ) → IsUnfinished line old.kept → StopsInside line old.session piece replies reply

-- why a piece is not read to its end
abbrev pub FeedFails : {W : Type 0} → (W → Option (List ℕ)) → Standing W → List ℕ → CountedDevice W → ScriptError → Type 0
FeedFails contents old piece writer InputTooLong = ⊥
FeedFails contents old piece writer OutOfMemory = FedInPart contents old piece writer
FeedFails contents old piece writer Device = FedUnheard contents old piece writer

-- all that the reader had left has been read, within the limit
pub record FedWhole {R W : Type 0} (s : Streams R W) (session : SessionValue) (kept : List ℕ) (session_after : SessionValue) (kept_after : List ℕ) : Type 0 where
  pub text : List ℕ
  pub come : HasCome s text
  pub at_end : IsAtEnd (s.bytes_left s.reader_after.inner)
  pub within : length text ≤ longest_script
  pub read : KeepsReader s
  pub fed : Fed s.bytes_taken (standing session kept s.writer) text (standing session_after kept_after s.writer_after)

-- a text has been read, and its replies are flushed
pub record FedUpTo {R W : Type 0} (s : Streams R W) (session : SessionValue) (kept text : List ℕ) : Type 0 where
  pub session_after : SessionValue
  pub kept_after : List ℕ
  pub fed : Fed s.bytes_taken (standing session kept s.writer) text (standing session_after kept_after s.writer_after)
  pub flushed : s.writer.flushed ≡ true → s.writer_after.flushed ≡ true

-- more came than a script may have
pub record FedTooLong {R W : Type 0} (s : Streams R W) (session : SessionValue) (kept : List ℕ) : Type 0 where
  pub text : List ℕ
  pub more : List ℕ
  pub come : HasCome s (text ++ more)
  pub too_long : longest_script < length (text ++ more)
  pub within : length text ≤ longest_script
  pub read : KeepsReader s
  pub fed : FedUpTo s session kept text

-- a read failed
pub record FedUnread {R W : Type 0} (s : Streams R W) (session : SessionValue) (kept : List ℕ) : Type 0 where
  pub text : List ℕ
  pub come : HasCome s text
  pub failed : FailedBetween s.reader s.reader_after
  pub fed : FedUpTo s session kept text

-- what was read could not be answered completely
pub record FedUnanswered {R W : Type 0} (s : Streams R W) (session : SessionValue) (kept : List ℕ) (e : ScriptError) : Type 0 where
  pub text : List ℕ
  pub come : HasCome s text
  pub read : KeepsReader s
  pub fails : FeedFails s.bytes_taken (standing session kept s.writer) text s.writer_after e

-- a flush failed; the replies to what was read have been written
pub record FedUnflushed {R W : Type 0} (s : Streams R W) (session : SessionValue) (kept : List ℕ) : Type 0 where
  pub text : List ℕ
  pub come : HasCome s text
  pub read : KeepsReader s
  pub failed : FailedBetween s.writer s.writer_after
  pub replies : List ℕ
  pub gone_out : HasGoneOut s replies
  pub session_after : SessionValue
  pub kept_after : List ℕ
  pub carries : (line : List ℕ) → IsUnfinished line kept → CarriesOn line session text replies session_after kept_after

-- why a reader is not read to its end
abbrev pub FeedingFails : {R W : Type 0} → Streams R W → SessionValue → List ℕ → ScriptError → Type 0
FeedingFails s session kept InputTooLong = FedTooLong s session kept
FeedingFails s session kept OutOfMemory = FedUnanswered s session kept OutOfMemory
FeedingFails s session kept Device = FedUnread s session kept ⊎ (FedUnanswered s session kept Device ⊎ FedUnflushed s session kept)

-- why lines are left: the replies before them may not have been flushed if memory ran out
abbrev pub StopsShort : {R W : Type 0} → Streams R W → ScriptError → Type 0
StopsShort s InputTooLong = RunsTooLong s
StopsShort s OutOfMemory = WantsMemory s
StopsShort s Device = FailsReading s ⊎ (FailsWriting s ⊎ FailsFlushing s)
