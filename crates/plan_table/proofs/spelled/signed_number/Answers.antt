use Rattle.std.proofs.Common.{◌≡◌, arith, of_z, rules, to_z}
use Rattle.std.specs.Int.{w128}
use Rattle.plan_table.specs.Decimal.{unsigned_of}
use Rattle.plan_table.proofs.Worth.{none_worth, too_far, too_fine, worth_of}
use Rattle.plan_table.proofs.spelled.signed_number.Goals as goal

pub returns-in_default : goal.returns-in_default
returns-in_default c = none_worth c.args.negative (unsigned_of c.args.word.now) c.args.places c.in_default.ensures

pub returns-then-unsigned-places : goal.returns-then-unsigned-places
returns-then-unsigned-places c = too_fine c.args.negative c.args.word.now c.in-Some.unsigned c.args.places c.in-Some.ensures (omega arith)

pub returns-in-None : goal.returns-in-None
returns-in-None c = too_far c.args.negative c.args.word.now c.in-Some.unsigned c.args.places c.in-Some.ensures (omega arith) c.in-None.ensures

pub returns-in-Some-raised : goal.returns-in-Some-raised
returns-in-Some-raised c =
    let number = c.with_sign.result in
    let same : to_z w128 (of_z w128 number) ≡ number = search rules in
    let found = c.in-Some-raised.ensures in
    rw same (worth_of c.args.negative (unsigned_of c.args.word.now) c.in-Some.unsigned c.args.places c.in-Some-raised.magnitude number c.in-Some.ensures (omega arith) found.0 found.1 c.with_sign.ensures)
