use Rattle.std.specs.Prelude.{None}
use Rattle.qap_search.specs.Law.CutTree.{IsCutTree}
use Rattle.qap_search.specs.Law.Replacement.{MayReplace}
use Rattle.qap_search.specs.Law.Search.{whole}
use Rattle.qap_search.proofs.LawLemmas.SearchLaws.{cut_trees_kept, cut_trees_unordered}
use Rattle.qap_search.proofs.runs.schedule.play.Given as goal

abbrev pub ghosts-follow-L-Ledger : goal.ghosts-follow-L-Ledger
ghosts-follow-L-Ledger a = record { name = a.blank.name; parts = a.blank.parts }

-- lawful are the cut trees of the instance that is searched
abbrev pub ghosts-follow-L-Law : goal.ghosts-follow-L-Law
ghosts-follow-L-Law a = record {
  lawful = IsCutTree (whole a.instance.now);
  allowed = MayReplace a.instance.now;
  begins = λ _. Unit {0};
  changes = Unit {0};
  limit = None;
  reached = λ _. Unit {0};
  unordered = cut_trees_unordered (whole a.instance.now);
  keeps = cut_trees_kept (whole a.instance.now);
  goes_on = λ _ _ _ _ _ _ _. tt;
}
