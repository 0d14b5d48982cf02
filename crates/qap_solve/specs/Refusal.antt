-- Why a run is aborted, and how that is reported.
use Rattle.std.specs.Prelude.{ℕ, codes}
use Rattle.qap_io.specs.Refusal.{RefusalText, memory_refusal, device_refusal, refused, refused_at}
use Rattle.qap_search.specs.declared.runs.answer.SolveError.{SolveError}
use Rattle.qap_search.specs.declared.runs.answer.SolveError.TheVariants.{Unfinished as SearchUnfinished, Stopped as SearchStopped, OutOfMemory as SearchMemory}
use Rattle.qap_text.specs.Refusal.{text_refusal}
use Rattle.qap_text.specs.declared.error.TextError.{TextError}
use Rattle.qap_text.specs.declared.error.TextError.TheVariants.{InputTooLong, OutOfMemory as TextMemory, Device as TextDevice}
use Rattle.space_script.specs.declared.script_error.ScriptError.{ScriptError}
use Rattle.space_script.specs.declared.script_error.ScriptError.TheVariants.{InputTooLong as ScriptTooLong, OutOfMemory as ScriptMemory, Device as ScriptDevice}
use Rattle.qap_solve.specs.declared.refusal.RunError.{RunError}
use Rattle.qap_solve.specs.declared.refusal.RunError.TheVariants.{Text, Unfinished, Stopped, OutOfMemory, Device}

-- the run's error for a fault of a text: out of memory and a failed device are the run's own
abbrev pub of_text : TextError → RunError
of_text TextMemory = OutOfMemory
of_text TextDevice = Device
of_text e = Text e

-- likewise for a fault of a script
abbrev pub of_script : ScriptError → RunError
of_script ScriptTooLong = Text InputTooLong
of_script ScriptMemory = OutOfMemory
of_script ScriptDevice = Device

-- likewise for the error of a search
abbrev pub of_search : SolveError → RunError
of_search (SearchUnfinished count) = Unfinished count
of_search (SearchStopped answer) = Stopped
of_search SearchMemory = OutOfMemory

-- the refusal that reports a run's error
abbrev pub refusal_of : RunError → RefusalText
refusal_of (Text e) = text_refusal e
refusal_of (Unfinished count) = refused_at 41 (codes "Unfinished") count
refusal_of Stopped = refused 43 (codes "Stopped")
refusal_of OutOfMemory = memory_refusal
refusal_of Device = device_refusal

-- the exit status of a refusal: 3 if out of memory, 4 if nodes are open, 5 if the search was stopped, else 1
abbrev pub status_of : RunError → ℕ
status_of OutOfMemory = 3
status_of (Unfinished count) = 4
status_of Stopped = 5
status_of _ = 1
