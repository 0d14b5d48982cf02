use Rattle.part_search.proofs.Bounds.{best_only, best_there}
use Rattle.part_search.proofs.law.best_law.Goals as goal

pub returns : goal.returns
returns c = record { there = best_there; only = best_only }
