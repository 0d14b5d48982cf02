use Rattle.std.proofs.Common.{◌≡◌, ◌++◌, length, map}
use Rattle.std.specs.List.{concat}
use denote.Shadow.{shadow}
use denote.Text.{Utf8}
use Rattle.plan_picture.proofs.wrapping.wrapped.Given as goal

abbrev pub invariant-loop-line : goal.invariant-loop-line
invariant-loop-line l = shadow (Utf8 l.rest) × (concat (map (λ line. line.now) l.lines.items) ++ l.rest ≡ l.text)

abbrev pub decreases-loop-line : goal.decreases-loop-line
decreases-loop-line l = length l.rest
