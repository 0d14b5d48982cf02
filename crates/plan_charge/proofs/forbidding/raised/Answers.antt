use Rattle.std.proofs.Common.{◌≡◌, ◌++◌, ◌∷◌, [], ◌*◌, ◌/◌, ◌%◌, arith, rules, subst, w64}
use Rattle.std.proofs.lemmas.Int.{to_z-of_z}
use Rattle.plan_charge.specs.Extended.{IsTable}
use Rattle.plan_charge.specs.Forbidding.{raised_at}
use Rattle.plan_charge.proofs.Raising.{IsRaised-table}
use Rattle.plan_charge.proofs.Tables.{IsTable-more}
use Rattle.plan_charge.proofs.forbidding.raised.Goals as goal

pub loop-k-preserved : goal.loop-k-preserved
loop-k-preserved c =
    let f = raised_at c.args.n c.args.charges.now c.args.forbidden.now c.args.penalty.step in
    let z = c.in-Some.entry in
    let k = c.loop-k.k in
    let is : z ≡ f (k / c.args.n) (k % c.args.n) = search rules in
    let pushed : c.push.new.self.items ≡ c.loop-k.entries.items ++ z ∷ [] = search rules in
    IsTable-more f c.args.n k c.loop-k.entries.items c.push.new.self.items z c.loop-k.invariant is c.in-Some.ensures.1 pushed

pub returns : goal.returns
returns c =
    let f = raised_at c.args.n c.args.charges.now c.args.forbidden.now c.args.penalty.step in
    let count = c.max-count.result in
    let whole : c.loop-k.k ≡ count * c.args.n = omega (arith, c.loop-k-test.false, c.loop-k.auto.k-end) in
    let table = subst (λ m. IsTable f c.args.n m c.loop-k.entries.items) whole c.loop-k.invariant in
    let is = c.max-count.ensures in
    let old = c.requires.charges in
    let payers = old.payers in
    let room = old.room in
    let rows = c.requires.forbidden.rows in
    let more = c.requires.forbidden.room in
    IsRaised-table c.args.n c.args.charges.now c.args.forbidden.now c.args.penalty _ old c.requires.forbidden c.requires.weight table (to_z-of_z w64 c.args.penalty.weight (search rules))
    (omega (arith, is, payers, rows)) (omega (arith, is, room, more)) (omega (arith, is)) (omega (arith, is))
