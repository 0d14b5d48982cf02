-- Runs of a schedule, one step more at their end.
use Rattle.std.proofs.Common.{ℕ, ◌+◌, ◌<◌, ◌≤◌, List, [], ◌∷◌, ◌++◌, refl, sym, subst, length, get_or, take, take_all}
use Rattle.std.proofs.lemmas.List.{take_more}
use Rattle.qap_cost.specs.Instance.{Problem}
use Rattle.qap_search.specs.Runs.Interleaving.{Moment, Moves, Runs}
use Rattle.qap_search.specs.declared.runs.schedule.Step.{Step}

Runs-more : (I : Problem) (lease : ℕ) (old : Moment) (steps : List Step) (now : Moment) (s : Step) (new : Moment) →
    Runs I lease old steps now → Moves I lease now s new → Runs I lease old (steps ++ s ∷ []) new
Runs-more I lease old [] now s new is moves = (new, subst (λ (m : Moment). Moves I lease m s new) is moves, refl)
Runs-more I lease old (x ∷ steps) now s new runs moves = (runs.0, runs.1, Runs-more I lease runs.0 steps now s new runs.2 moves)

-- the step at the next place
pub Runs-step : (I : Problem) (lease : ℕ) (old : Moment) (steps : List Step) (i : ℕ) (d : Step) (now new : Moment) → i < length steps →
    Runs I lease old (take i steps) now → Moves I lease now (get_or steps i d) new → Runs I lease old (take (i + 1) steps) new
Runs-step I lease old steps i d now new less runs moves =
    subst (λ (xs : List Step). Runs I lease old xs new) (sym (take_more steps i d less)) (Runs-more I lease old (take i steps) now (get_or steps i d) new runs moves)

-- all steps
pub Runs-whole : (I : Problem) (lease : ℕ) (old : Moment) (steps : List Step) (i : ℕ) (new : Moment) → length steps ≤ i →
    Runs I lease old (take i steps) new → Runs I lease old steps new
Runs-whole I lease old steps i new all runs = subst (λ (xs : List Step). Runs I lease old xs new) (take_all i steps all) runs
