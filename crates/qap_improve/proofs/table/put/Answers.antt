use Rattle.std.proofs.lemmas.List.{map-set}
use Rattle.qap_improve.proofs.table.put.Goals as goal

pub returns : goal.returns
returns g c = map-set g.N.Number.value c.args.numbers.now c.args.place c.args.number
