use Rattle.std.proofs.Common.{◌≡◌, ◌-◌, length, take, min}
use Rattle.qap_io.specs.Digits.{magnitude_of, BeginsWithDigits}
use Rattle.qap_io.proofs.digits.front_digits.Given as goal

abbrev pub invariant-loop-count : goal.invariant-loop-count
invariant-loop-count l = record {
  digits : BeginsWithDigits l.text l.count;
  value : l.magnitude ≡ min (magnitude_of (take l.count l.text)) l.bound;
}

abbrev pub decreases-loop-count : goal.decreases-loop-count
decreases-loop-count l = length l.text - l.count
