-- The refusal of a script that is aborted.
use Rattle.std.specs.Prelude.{codes}
use Rattle.qap_io.specs.Refusal.{RefusalText, memory_refusal, device_refusal, refused}
use Rattle.space_script.specs.declared.script_error.ScriptError.{ScriptError}
use Rattle.space_script.specs.declared.script_error.ScriptError.TheVariants.{InputTooLong, OutOfMemory, Device}

-- the refusal with which each error of a script is reported, by number and name
abbrev pub script_refusal : ScriptError → RefusalText
script_refusal InputTooLong = refused 24 (codes "InputTooLong")
script_refusal OutOfMemory = memory_refusal
script_refusal Device = device_refusal
