use Rattle.plan_table.proofs.Worth.{spelled_of}
use Rattle.plan_table.proofs.spelled.spelled_number.Goals as goal

pub returns : goal.returns
returns c = spelled_of c.args.word.now c.args.places c.number_at.result c.number_at.ensures
