use Rattle.std.proofs.Common.{◌≡◌, ◌++◌, drop, length}
use Rattle.std.specs.Str.{chars}
use Rattle.plan_picture.specs.Escaping.{escaped_chars}
use Rattle.plan_picture.proofs.escape.escaped.Given as goal

abbrev pub invariant-loop-letter : goal.invariant-loop-letter
invariant-loop-letter l =
    (l.all.items ++ escaped_chars (drop (length l.yielded) (chars l.text)) ≡ escaped_chars (chars l.text))
