use Rattle.std.proofs.Common.{◌≡◌, ℕ, ◌+◌, ◌<◌, ◌++◌, length, take, get_or, pos}
use Rattle.std.specs.Prelude.{remove}
use Rattle.gilmore_lawler.proofs.left_out.write_without.Given as goal

abbrev pub invariant-loop-j : goal.invariant-loop-j
invariant-loop-j l = record {
  count : length l.numbers ≡ length l.initial.numbers;
  written : (t : ℕ) → t < length l.sorted → get_or l.sorted t (pos 0) ≡ l.gone → take (l.start + l.j) l.numbers ≡ take l.start l.initial.numbers ++ take l.j (remove l.sorted t);
}
