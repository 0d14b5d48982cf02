use Rattle.pair_duals.proofs.KeptRows.{row_in_table, table-small}
use Rattle.pair_duals.proofs.kept.start_of_row.Goals as goal

pub returns-clause-within : goal.returns-clause-within
returns-clause-within c = row_in_table c.args.m c.args.i c.args.j c.args.l c.requires.i_in c.requires.j_in c.requires.l_in

pub returns-clause-small : goal.returns-clause-small
returns-clause-small c = table-small c.args.m c.requires.small
