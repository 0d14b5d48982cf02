use Rattle.std.proofs.Common.{ap₂, ◌∙◌, arith}
use Rattle.std.specs.Prelude.{◌+ℤ◌}
use Rattle.std.proofs.lemmas.Int.{ints}
use Rattle.qap_improve.proofs.Readings.{reads_as, reads_at, reads_both, reads_crossed}
use Rattle.qap_improve.proofs.pair.change_among.Goals as goal

pub overflow_add-result : goal.overflow_add-result
overflow_add-result c = omega (arith, ints, c.crossed-own.ensures.bounded, c.crossed-mutual.ensures.bounded)

pub returns-clause-value : goal.returns-clause-value
returns-clause-value c =
    reads_both c.crossed-own.result c.crossed-mutual.result c.crossed-own.ensures.bounded c.crossed-mutual.ensures.bounded
    ∙ ap₂ ◌+ℤ◌
    (reads_crossed _ _ _ _ _ _ _ _ _ c.crossed-own.ensures.value
    (reads_as c.a.result _ c.a.ensures.value c.a.ensures.range)
    (reads_as c.a-2.result _ c.a-2.ensures.value c.a-2.ensures.range)
    (reads_at _ _ _ _ _ _ c.b.result c.b.ensures.value c.b.ensures.range c.from-at_s.ensures c.from-at_s.ensures)
    (reads_at _ _ _ _ _ _ c.b-2.result c.b-2.ensures.value c.b-2.ensures.range c.from-at_r.ensures c.from-at_r.ensures))
    (reads_crossed _ _ _ _ _ _ _ _ _ c.crossed-mutual.ensures.value
    (reads_as c.a-3.result _ c.a-3.ensures.value c.a-3.ensures.range)
    (reads_as c.a-4.result _ c.a-4.ensures.value c.a-4.ensures.range)
    (reads_at _ _ _ _ _ _ c.b-3.result c.b-3.ensures.value c.b-3.ensures.range c.from-at_s.ensures c.from-at_r.ensures)
    (reads_at _ _ _ _ _ _ c.b-4.result c.b-4.ensures.value c.b-4.ensures.range c.from-at_r.ensures c.from-at_s.ensures))
