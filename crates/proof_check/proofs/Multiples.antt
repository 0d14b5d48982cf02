-- The greatest multiple of a step that is at most a number.
use Rattle.std.proofs.Common.{◌≡◌, ℕ, ◌<◌, ◌≤◌, ◌^◌, ℤ, pos, unsigned_abs, ◌∙◌, arith}
use Rattle.std.specs.Prelude.{◌-ℤ◌}
use Rattle.std.proofs.lemmas.Int.{ints}
use Rattle.proof_tree.proofs.Remainders.{IsRemainder}
use Rattle.proof_check.specs.Judge.{IsGreatestBelow}

-- the greatest multiple below a bound is the bound less 1, less the remainder of that
pub IsGreatestBelow-remainder : (step : ℕ) (bound times rest below : ℤ) → 0 < step → step ≤ 10 ^ 25 → unsigned_abs bound ≤ 10 ^ 24 → IsRemainder step (bound -ℤ pos 1) times rest → below ≡ (bound -ℤ pos 1) -ℤ rest → IsGreatestBelow step bound below
IsGreatestBelow-remainder step bound times rest below some small limited h is =
    let multiple = h.multiple in
    let least = h.least in
    let less = h.less in
    record {
      times = times;
      multiple = is ∙ h.multiple;
      less = omega (arith, ints, is, least);
      next = omega (arith, ints, is, less);
      small = omega (arith, ints, is, least, less, small, limited);
    }
