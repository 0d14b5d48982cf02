use Rattle.std.specs.Prelude.{◌≡◌, ℕ}
use Rattle.std.specs.Arc.{arc_value}
use Rattle.shared_space.specs.Limit.{is_reached}
use Rattle.shared_space.specs.Place.{place_of}
use Rattle.shared_space.specs.Run.{Run}
use Rattle.shared_space.proofs.RunLemmas.{runs_go_on}
use Rattle.part_search.specs.Law.{IsSearched, Part, best_with}
use Rattle.part_search.specs.Opening.{part_of}
use Rattle.part_search.specs.Replacement.{MayReplace}
use Rattle.part_search.proofs.Replacing.{searched_kept, searched_unordered}
use Rattle.part_search.proofs.threads.run_of.Given as goal

abbrev pub ghosts-search-L-Ledger : goal.ghosts-search-L-Ledger
ghosts-search-L-Ledger g a = record { name = a.blank.name; parts = a.blank.parts }

-- lawful are the tuples of the search, its transactions begin with the crew's lease, no call outside them changes the space, and
-- reached is what a run from the opening leads to
abbrev pub ghosts-search-L-Law : goal.ghosts-search-L-Law
ghosts-search-L-Law g a =
    let I = arc_value a.task.now.ground.now in
    let S : Part = part_of I a.task.now.root.now (best_with I a.task.now.start.now) in
    let begins = λ (lease : ℕ). lease ≡ a.crew.lease_ms in
    let first = place_of a.space a.crew.workers 0 (is_reached a.crew.limit 0) in
    record {
      lawful = λ content commits. IsSearched S content;
      allowed = MayReplace I;
      begins = begins;
      changes = ⊥;
      limit = a.crew.limit;
      reached = Run (MayReplace I) begins ⊥ a.crew.limit first;
      unordered = searched_unordered S;
      keeps = searched_kept S;
      goes_on = runs_go_on (MayReplace I) begins ⊥ a.crew.limit first;
    }
