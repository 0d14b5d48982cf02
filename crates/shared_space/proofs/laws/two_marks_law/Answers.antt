use Rattle.shared_space.proofs.MarkLemmas.{one_taken, two_taken}
use Rattle.shared_space.proofs.laws.two_marks_law.Goals as goal

pub returns : goal.returns
returns c = record { taken = two_taken; read = one_taken }
