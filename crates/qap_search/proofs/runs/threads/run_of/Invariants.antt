use Rattle.std.specs.Prelude.{◌≡◌, ℕ}
use Rattle.shared_space.specs.Limit.{is_reached}
use Rattle.shared_space.specs.Place.{place_of}
use Rattle.shared_space.specs.Run.{Run}
use Rattle.shared_space.proofs.RunLemmas.{runs_go_on}
use Rattle.qap_search.specs.Law.CutTree.{IsCutTree}
use Rattle.qap_search.specs.Law.Replacement.{MayReplace}
use Rattle.qap_search.specs.Law.Search.{whole}
use Rattle.qap_search.proofs.LawLemmas.SearchLaws.{cut_trees_kept, cut_trees_unordered}
use Rattle.qap_search.proofs.runs.threads.run_of.Given as goal

abbrev pub ghosts-search-L-Ledger : goal.ghosts-search-L-Ledger
ghosts-search-L-Ledger g a = record { name = a.blank.name; parts = a.blank.parts }

-- lawful are the cut trees of the search, its transactions begin with the crew's lease, no call outside them changes the space, and
-- reached is what a run from the opening leads to
abbrev pub ghosts-search-L-Law : goal.ghosts-search-L-Law
ghosts-search-L-Law g a =
    let S = whole a.instance.now in
    let begins = λ (lease : ℕ). lease ≡ a.crew.lease_ms in
    let first = place_of a.space a.crew.workers 0 (is_reached a.crew.limit 0) in
    record {
      lawful = IsCutTree S;
      allowed = MayReplace S.instance;
      begins = begins;
      changes = ⊥;
      limit = a.crew.limit;
      reached = Run (MayReplace S.instance) begins ⊥ a.crew.limit first;
      unordered = cut_trees_unordered S;
      keeps = cut_trees_kept S;
      goes_on = runs_go_on (MayReplace S.instance) begins ⊥ a.crew.limit first;
    }
