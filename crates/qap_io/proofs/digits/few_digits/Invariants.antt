use Rattle.std.proofs.Common.{◌≡◌, ◌≤◌, ◌-◌, take}
use Rattle.qap_io.specs.Digits.{magnitude_of, BeginsWithDigits}
use Rattle.qap_io.proofs.digits.few_digits.Given as goal

abbrev pub invariant-loop-count : goal.invariant-loop-count
invariant-loop-count l = record {
  few : l.count ≤ l.stop;
  digits : BeginsWithDigits l.text l.count;
  value : l.magnitude ≡ magnitude_of (take l.count l.text);
}

abbrev pub decreases-loop-count : goal.decreases-loop-count
decreases-loop-count l = l.stop - l.count
