use Rattle.std.proofs.Common.{◌+◌, ap}
use Rattle.plan_charge.proofs.Tables.{extended_of}
use Rattle.plan_charge.proofs.extension.extended.Goals as goal

pub returns : goal.returns
returns c =
    let charges = c.args.charges.now in
    extended_of c.args.instance.now c.in-Ok.extended charges (c.size.result + charges.count) c.in_ok-a.a.items c.in_ok-b.b.items (ap (λ n. n + charges.count) c.size.ensures.value) c.in_ok-a.ensures c.in_ok-b.ensures c.in-Ok.ensures.0 c.in-Ok.ensures.1
