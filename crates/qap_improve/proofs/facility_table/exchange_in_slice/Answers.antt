use Rattle.qap_improve.proofs.FacilityTables.{AreExchanged-both}
use Rattle.qap_improve.proofs.facility_table.exchange_in_slice.Goals as goal

pub returns : goal.returns
returns c =
    AreExchanged-both c.args.n c.args.r c.args.s c.args.table.now c.exchange_rows.new.table c.exchange_columns.new.table c.requires.first c.requires.second
    c.exchange_rows.ensures c.exchange_columns.ensures
