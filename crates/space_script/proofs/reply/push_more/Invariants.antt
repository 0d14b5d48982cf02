-- The numbers so far stand behind commas.
use Rattle.std.proofs.Common.{◌≡◌, ◌++◌, take}
use Rattle.space_script.specs.Reply.{behind_commas}
use Rattle.space_script.proofs.reply.push_more.Given as goal

abbrev pub invariant-loop-number : goal.invariant-loop-number
invariant-loop-number l = l.line.items ≡ l.initial.line.items ++ behind_commas (take l.number-index l.numbers)
