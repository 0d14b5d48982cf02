use Rattle.std.specs.Prelude.{None}
use Rattle.qap_search.specs.Law.CutTree.{IsCutTree}
use Rattle.qap_search.specs.Law.Replacement.{MayReplace}
use Rattle.qap_search.specs.Law.Search.{whole}
use Rattle.qap_search.proofs.LawLemmas.SearchLaws.{cut_trees_kept, cut_trees_unordered}
use Rattle.qap_search.proofs.runs.alone.solve_alone.Given as goal

abbrev pub ghosts-search-L-Ledger : goal.ghosts-search-L-Ledger
ghosts-search-L-Ledger g a = record { name = a.blank.name; parts = a.blank.parts }

-- lawful are the cut trees of the instance that is searched
abbrev pub ghosts-search-L-Law : goal.ghosts-search-L-Law
ghosts-search-L-Law g a = record {
  lawful = IsCutTree (whole a.instance.now);
  allowed = MayReplace a.instance.now;
  begins = λ _. Unit {0};
  changes = Unit {0};
  limit = None;
  reached = λ _. Unit {0};
  unordered = cut_trees_unordered (whole a.instance.now);
  keeps = cut_trees_kept (whole a.instance.now);
  goes_on = λ _ _ _ _ _ _ _. tt;
}
