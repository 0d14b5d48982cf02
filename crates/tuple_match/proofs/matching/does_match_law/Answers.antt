use Rattle.tuple_match.proofs.Deciding.{Decides-does_match}
use Rattle.tuple_match.proofs.matching.does_match_law.Goals as goal

pub returns : goal.returns
returns c = λ template tuple. Decides-does_match template tuple
