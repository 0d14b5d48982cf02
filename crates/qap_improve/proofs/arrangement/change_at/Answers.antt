use Rattle.std.proofs.Common.{ℕ, ◌∙◌, ap, arith, subst, sym}
use Rattle.std.specs.Prelude.{ℤ, ◌+ℤ◌}
use Rattle.qap_cost.specs.Objective.{cost_of}
use Rattle.qap_improve.specs.Rows.{AreRowsWithin, change_by_rows}
use Rattle.qap_improve.specs.declared.facility_table.Content.TheVariants.{Flows, FlowsBack, Distances, DistancesBack}
use Rattle.qap_improve.proofs.Arrangements.{change_by_rows-is, entries-within, rows-within}
use Rattle.qap_improve.proofs.Readings.{reads_wide}
use Rattle.qap_improve.proofs.arrangement.change_at.Goals as goal

pub change_of-requires-clause-few : goal.change_of-requires-clause-few
change_of-requires-clause-few c = let size = c.rows_there-there.ensures.rows.size in omega (arith, c.rows_there-there.ensures.instance.small)

pub change_of-requires-clause-there : goal.change_of-requires-clause-there
change_of-requires-clause-there c =
    let a = c.requires.arrangement in
    let rows = c.rows_there-there.ensures.rows in
    subst (λ (m : ℕ). AreRowsWithin 1000000000 m c.rows_there-there.result) (sym rows.size)
    (rows-within 1000000000 c.args.instance.now c.args.arrangement.now.locations.items Flows Distances _ _ c.args.r c.args.s c.rows_there-there.result
    (entries-within c.args.instance.now c.rows_there-there.ensures.instance) a.permutation c.requires.first c.requires.second a.flows a.distances rows)

pub change_of-requires-clause-back : goal.change_of-requires-clause-back
change_of-requires-clause-back c =
    let a = c.requires.arrangement in
    subst (λ (m : ℕ). AreRowsWithin 1000000000 m c.rows_back-back.result) (sym c.rows_there-there.ensures.rows.size)
    (rows-within 1000000000 c.args.instance.now c.args.arrangement.now.locations.items FlowsBack DistancesBack _ _ c.args.r c.args.s c.rows_back-back.result
    (entries-within c.args.instance.now c.rows_there-there.ensures.instance) a.permutation c.requires.first c.requires.second a.flows_back a.distances_back c.rows_back-back.ensures.rows)

pub change_of-requires-clause-there_small : goal.change_of-requires-clause-there_small
change_of-requires-clause-there_small c =
    let a = c.requires.arrangement in
    let rows = c.rows_there-there.ensures.rows in
    λ are_small.
    subst (λ (m : ℕ). AreRowsWithin 50000000 m c.rows_there-there.result) (sym rows.size)
    (rows-within 50000000 c.args.instance.now c.args.arrangement.now.locations.items Flows Distances _ _ c.args.r c.args.s c.rows_there-there.result
    (a.small are_small) a.permutation c.requires.first c.requires.second a.flows a.distances rows)

pub change_of-requires-clause-back_small : goal.change_of-requires-clause-back_small
change_of-requires-clause-back_small c =
    let a = c.requires.arrangement in
    λ are_small.
    subst (λ (m : ℕ). AreRowsWithin 50000000 m c.rows_back-back.result) (sym c.rows_there-there.ensures.rows.size)
    (rows-within 50000000 c.args.instance.now c.args.arrangement.now.locations.items FlowsBack DistancesBack _ _ c.args.r c.args.s c.rows_back-back.result
    (a.small are_small) a.permutation c.requires.first c.requires.second a.flows_back a.distances_back c.rows_back-back.ensures.rows)

pub returns-clause-value : goal.returns-clause-value
returns-clause-value c =
    let I = c.args.instance.now in
    let p = c.args.arrangement.now.locations.items in
    let a = c.requires.arrangement in
    let told = c.change_of.ensures in
    let rows = c.rows_there-there.ensures.rows in
    ap (λ (x : ℤ). cost_of I p +ℤ x)
    (reads_wide c.change_of.result (omega (arith, told.bounded)) ∙ told.value
    ∙ ap (λ (m : ℕ). change_by_rows m c.rows_there-there.result c.rows_back-back.result c.args.r c.args.s) rows.size)
    ∙ change_by_rows-is I p _ _ _ _ c.args.r c.args.s c.rows_there-there.result c.rows_back-back.result a.permutation.same_size c.requires.two c.requires.first c.requires.second
    a.flows a.flows_back a.distances a.distances_back rows c.rows_back-back.ensures.rows
