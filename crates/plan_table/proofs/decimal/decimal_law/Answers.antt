use Rattle.plan_table.proofs.LeastPlaces.{places-least}
use Rattle.plan_table.proofs.Scaling.{scaled-whole}
use Rattle.plan_table.proofs.decimal.decimal_law.Goals as goal

pub returns : goal.returns
returns c = record { least = places-least; whole = scaled-whole }
