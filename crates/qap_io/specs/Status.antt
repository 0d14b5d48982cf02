-- Exit statuses of programs.
use Rattle.std.specs.Prelude.{ℕ}
use Rattle.qap_io.specs.declared.status.Status.{Status}
use Rattle.qap_io.specs.declared.status.Status.TheVariants.{Done, Refused, Usage, OutOfMemory, Unfinished, Stopped}

-- the number that the operating system receives for each way in which a program ends
abbrev pub exit_code : Status → ℕ
exit_code Done = 0
exit_code Refused = 1
exit_code Usage = 2
exit_code OutOfMemory = 3
exit_code Unfinished = 4
exit_code Stopped = 5
