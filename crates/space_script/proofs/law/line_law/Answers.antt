-- What the words spell is one.
use Rattle.space_script.proofs.OneCommand.{one_command_line, blank_no_command}
use Rattle.space_script.proofs.law.line_law.Goals as goal

pub returns : goal.returns
returns c = record { one = one_command_line; blank = blank_no_command }
