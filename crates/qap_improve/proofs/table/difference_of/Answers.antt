use Rattle.std.proofs.Common.{ap, ◌∙◌, arith}
use Rattle.std.specs.Prelude.{ℤ, ◌+ℤ◌}
use Rattle.qap_cost.specs.Objective.{cost_of}
use Rattle.qap_improve.proofs.Ranges.{IsDifference-within}
use Rattle.qap_improve.proofs.Readings.{reads_wide}
use Rattle.qap_improve.proofs.table.difference_of.Goals as goal

pub narrow-requires : goal.narrow-requires
narrow-requires g c =
    rw (reads_wide c.change_at.result (omega (arith, c.change_at.ensures.bounded)))
    (IsDifference-within g.N.Number.limit c.args.instance.now c.args.arrangement.now.locations.items c.args.r c.args.s c.change_at.result c.requires.small c.requires.instance.small
    c.requires.arrangement.permutation c.requires.two c.requires.first c.requires.second c.change_at.ensures.value)

pub returns : goal.returns
returns g c =
    ap (λ (x : ℤ). cost_of c.args.instance.now c.args.arrangement.now.locations.items +ℤ x)
    (c.narrow.ensures ∙ reads_wide c.change_at.result (omega (arith, c.change_at.ensures.bounded)))
    ∙ c.change_at.ensures.value
