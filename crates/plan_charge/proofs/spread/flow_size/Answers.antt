use Rattle.std.proofs.Common.{◌≡◌, ◌∙◌, rules, w64}
use Rattle.std.specs.Prelude.{pos, unsigned_abs}
use Rattle.std.proofs.lemmas.Int.{to_z-of_z}
use Rattle.plan_charge.proofs.Spreads.{flow_size-made}
use Rattle.plan_charge.proofs.spread.flow_size.Goals as goal

pub returns-clause-value : goal.returns-clause-value
returns-clause-value c =
    let is : c.abs.result ≡ pos (unsigned_abs c.a.result) = search rules in
    to_z-of_z w64 c.abs.result (search rules)
    ∙ flow_size-made c.args.instance.now c.args.k c.size-n.result c.a.result c.abs.result c.size-n.ensures.value c.a.ensures.value is
