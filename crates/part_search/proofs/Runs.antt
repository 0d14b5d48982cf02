-- Runs of a schedule, one step more at their end.
use Rattle.std.proofs.Common.{ℕ, ◌+◌, ◌<◌, ◌≤◌, List, [], ◌∷◌, ◌++◌, length, get_or, take, refl, sym, subst, take_all}
use Rattle.std.proofs.lemmas.List.{take_more}
use Rattle.qap_cost.specs.Instance.{Problem}
use Rattle.shared_space.specs.Place.{Place}
use Rattle.part_search.specs.Schedule.{Moves, Runs}
use Rattle.part_search.specs.declared.schedule.Step.{Step}

runs_more : (I : Problem) (workers : ℕ) (old mid new : Place) (steps : List Step) (s : Step) → Runs I workers old steps mid → Moves I workers mid s new → Runs I workers old (steps ++ s ∷ []) new
runs_more I workers old mid new [] s is h = (new, subst (λ (p : Place). Moves I workers p s new) is h, refl)
runs_more I workers old mid new (a ∷ steps) s runs h = (runs.0, runs.1, runs_more I workers runs.0 mid new steps s runs.2 h)

-- the step at the next place
pub Runs-step : (I : Problem) (workers : ℕ) (old : Place) (steps : List Step) (i : ℕ) (d : Step) (mid new : Place) → i < length steps → Runs I workers old (take i steps) mid → Moves I workers mid (get_or steps i d) new → Runs I workers old (take (i + 1) steps) new
Runs-step I workers old steps i d mid new less runs moves =
    subst (λ (l : List Step). Runs I workers old l new) (sym (take_more steps i d less)) (runs_more I workers old mid new (take i steps) (get_or steps i d) runs moves)

-- all steps
pub Runs-whole : (I : Problem) (workers : ℕ) (old : Place) (steps : List Step) (i : ℕ) (new : Place) → length steps ≤ i → Runs I workers old (take i steps) new → Runs I workers old steps new
Runs-whole I workers old steps i new all runs = subst (λ (l : List Step). Runs I workers old l new) (take_all i steps all) runs
