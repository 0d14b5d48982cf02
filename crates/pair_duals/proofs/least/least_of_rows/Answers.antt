use Rattle.std.proofs.Common.{arith}
use Rattle.std.proofs.lemmas.List.{length-map, map-set}
use Rattle.pair_duals.proofs.Leasts.{HasRowLeasts-more}
use Rattle.pair_duals.proofs.least.least_of_rows.Goals as goal

pub loop-r-init : goal.loop-r-init
loop-r-init g c = record { count = length-map c.args.u.now g.N.Number.value; least = λ r h. absurd (omega arith) }

pub loop-r-preserved : goal.loop-r-preserved
loop-r-preserved g c =
    rw (map-set g.N.Number.value c.loop-r.u c.loop-r.r c.least_of_row.result)
    (HasRowLeasts-more _ _ _ _ _ c.loop-r.invariant c.loop-r-test.true c.least_of_row.ensures)

pub returns : goal.returns
returns g c = record { count = c.loop-r.invariant.count; least = λ r h. c.loop-r.invariant.least r (omega arith) }
