use Rattle.std.proofs.Common.{◌≡◌, ◌++◌, drop, length, string_bytes}
use Rattle.std.specs.Str.{chars}
use Rattle.plan_table.specs.Control.{shown_chars}
use Rattle.plan_table.proofs.control.shown.Given as goal

abbrev pub invariant-loop-letter : goal.invariant-loop-letter
invariant-loop-letter l =
    (string_bytes l.text ++ shown_chars (drop (length l.yielded) (chars l.word)) ≡ shown_chars (chars l.word))
