use Rattle.std.proofs.Common.{◌≡◌, ◌<◌, ◌≤◌, ℕ, not, get_or}
use Rattle.qap_text.specs.Word.{is_separator}
use Rattle.qap_text.proofs.word.first_place.Given as goal

abbrev pub invariant-loop-i : goal.invariant-loop-i
invariant-loop-i l = (k : ℕ) → l.from ≤ k → k < l.i → is_separator (get_or l.text k 0) ≡ not l.separator
