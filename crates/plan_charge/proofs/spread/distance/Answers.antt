use Rattle.std.proofs.Common.{◌∙◌, rules, w64}
use Rattle.std.proofs.lemmas.Int.{to_z-of_z}
use Rattle.plan_charge.proofs.Spreads.{distance-made}
use Rattle.plan_charge.proofs.spread.distance.Goals as goal

pub returns : goal.returns
returns c =
    to_z-of_z w64 c.b.result (search rules)
    ∙ distance-made c.args.instance.now c.args.k c.size-n.result c.b.result c.size-n.ensures.value c.b.ensures.value
