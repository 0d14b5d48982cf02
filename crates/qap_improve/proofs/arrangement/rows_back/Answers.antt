use Rattle.qap_improve.specs.declared.facility_table.Content.TheVariants.{FlowsBack, DistancesBack}
use Rattle.qap_improve.proofs.Arrangements.{AreRowsOf-same, entries-within, rows-within}
use Rattle.qap_improve.proofs.RowProducts.{rows-own}
use Rattle.qap_improve.proofs.arrangement.rows_back.Goals as goal

pub returns-clause-rows : goal.returns-clause-rows
returns-clause-rows c =
    AreRowsOf-same _ _ _ _ _ _ c.args.r c.args.s c.rows_of.result c.size-n.ensures.value c.deref.ensures.value c.deref-2.ensures.value c.rows_of.ensures

pub returns-clause-within : goal.returns-clause-within
returns-clause-within c =
    let I = c.args.instance.now in
    let a = c.requires.arrangement in
    rows-own 1000000000 I.size c.rows_of.result
    (rows-within 1000000000 I c.args.arrangement.now.locations.items FlowsBack DistancesBack _ _ c.args.r c.args.s c.rows_of.result
    (entries-within I c.size-n.ensures.instance) a.permutation c.requires.first c.requires.second a.flows_back a.distances_back (returns-clause-rows c))
