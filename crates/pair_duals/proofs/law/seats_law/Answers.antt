use Rattle.pair_duals.proofs.Seatings.{Seats-completed}
use Rattle.pair_duals.proofs.law.seats_law.Goals as goal

pub returns : goal.returns
returns c = Seats-completed
