-- The result of a run of the solver, for any request.
use Rattle.std.specs.Prelude.{◌≡◌, ℕ, ◌⊎◌, List, Option}
use Rattle.qap_io.specs.Counting.{CountedDevice}
use Rattle.qap_io.specs.Refusal.{refusal_line}
use Rattle.qap_io.specs.Status.{exit_code}
use Rattle.qap_io.specs.Writing.{BreaksOff, Sends}
use Rattle.qap_io.specs.declared.status.Status.TheVariants.{Done}
use Rattle.qap_text.specs.Input.{input_of}
use Rattle.space_script.specs.Run.{BreaksDown, RunsWhole, Streams}
use Rattle.space_script.specs.declared.script_error.ScriptError.{ScriptError}
use Rattle.qap_solve.specs.Refusal.{of_script, refusal_of, status_of}
use Rattle.qap_solve.specs.Solving.{HasNotSolved, HasSolved}
use Rattle.qap_solve.specs.declared.command_line.Request.{Request}
use Rattle.qap_solve.specs.declared.command_line.Request.TheVariants.{Solve, Script}
use Rattle.qap_solve.specs.declared.refusal.RunError.{RunError}
use Rattle.qap_solve.specs.declared.refusal.RunError.TheVariants.{Stopped}

-- all of the answer has been written
abbrev pub HasAnswered : {R W : Type 0} → Streams R W → Request → Type 0
HasAnswered s (Solve options) =
    HasSolved (input_of s.bytes_left s.reader s.reader_after) options.nodes options.cert s.bytes_taken s.writer s.writer_after
HasAnswered s Script = RunsWhole s

-- there is no answer, or only a part of it, for this reason
abbrev pub HasNotAnswered : {R W : Type 0} → Streams R W → Request → RunError → Type 0
HasNotAnswered s (Solve options) e =
    HasNotSolved (input_of s.bytes_left s.reader s.reader_after) options.nodes options.cert s.bytes_taken s.writer s.writer_after e
HasNotAnswered s Script e = (fault : ScriptError) × BreaksDown s fault × (e ≡ of_script fault)

-- The line of a refusal has been written, or the writer failed after a prefix of it. Nothing is reported for a search
-- that was stopped, since its result is on the output.
abbrev pub HasTold : {E : Type 0} → (E → Option (List ℕ)) → CountedDevice E → CountedDevice E → RunError → Type 0
HasTold contents old new Stopped = new ≡ old
HasTold contents old new e = Sends contents old new (refusal_line (refusal_of e)) ⊎ BreaksOff contents old new (refusal_line (refusal_of e))

-- The run ended with this exit status: 0 after the whole answer, with no refusal reported, or that of the reason why
-- there is none, which was reported.
abbrev pub HasRun : {R W E : Type 0} → Streams R W → Request → (E → Option (List ℕ)) → CountedDevice E → CountedDevice E → ℕ → Type 0
HasRun s request told errors errors_after exit =
    (HasAnswered s request × (exit ≡ exit_code Done) × (errors_after ≡ errors))
    ⊎ ((e : RunError) × HasNotAnswered s request e × (exit ≡ status_of e) × HasTold told errors errors_after e)
