use Rattle.std.proofs.Common.{arith}
use Rattle.std.specs.Option.{option_map}
use Rattle.plan_table.specs.Decimal.{unsigned_of}
use Rattle.plan_table.proofs.Digits.{too_large}
use Rattle.plan_table.specs.Rounding.{rounded}
use Rattle.plan_table.proofs.rounding.rounded_signed.Goals as goal

pub returns-then-unsigned-from : goal.returns-then-unsigned-from
returns-then-unsigned-from c =
    too_large c.args.negative (option_map (rounded c.args.places) (unsigned_of c.args.word.now)) c.in-Some.unsigned c.in-Some.ensures (omega arith)
