use Rattle.std.proofs.Common.{◌≡◌, drop}
use Rattle.plan_table.specs.Scan.{first_fault, scan}
use Rattle.plan_table.proofs.csv_text.check.Given as goal

abbrev pub invariant-loop-byte : goal.invariant-loop-byte
invariant-loop-byte l = scan l.separator l.reached (drop l.byte-index l.text) ≡ first_fault l.separator l.text
