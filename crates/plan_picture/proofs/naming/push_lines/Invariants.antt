use Rattle.std.proofs.Common.{◌≡◌, ◌+◌, ◌++◌, [], get_or, map}
use Rattle.plan_picture.specs.Joining.{joined_to}
use Rattle.plan_picture.specs.Marks.{line_y, name_mark}
use Rattle.plan_picture.proofs.naming.push_lines.Given as goal

abbrev pub invariant-loop-i : goal.invariant-loop-i
invariant-loop-i l =
    (l.text.items ≡ l.fn.text.items ++ joined_to (λ i. name_mark l.centre.x (line_y l.centre.y l.all (l.from + i)) l.style (get_or (map (λ line. line.now) l.lines) i [])) l.i)
