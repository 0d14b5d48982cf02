use Rattle.std.proofs.Common.{ℕ, ◌<◌, ◌≤◌, ◌^◌, get_or, pos}
use Rattle.std.specs.Prelude.{unsigned_abs}
use Rattle.number_list.specs.Numbers.{numbers_in}
use Rattle.qap_lines.proofs.number.are_limited.Given as goal

abbrev pub invariant-loop-place : goal.invariant-loop-place
invariant-loop-place l = (k : ℕ) → k < l.place → unsigned_abs (get_or (numbers_in l.numbers) k (pos 0)) ≤ 10 ^ 24
