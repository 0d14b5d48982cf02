-- Cut trees as the law of a space.
use Rattle.std.proofs.Common.{refl, sym, ◌∙◌}
use Rattle.shared_space.specs.Law.{IsKept, IsUnordered}
use Rattle.qap_search.specs.Law.CutTree.{IsCutTree}
use Rattle.qap_search.specs.Law.Replacement.{MayReplace}
use Rattle.qap_search.specs.Law.Search.{Search}
use Rattle.qap_search.specs.Law.SearchLaw.{IsLawOf}
use Rattle.qap_search.proofs.LawLemmas.Replacing.{replacement}

-- tuples of a cut tree are so in any order
pub cut_trees_unordered : (S : Search) → IsUnordered (IsCutTree S)
cut_trees_unordered S xs ys commits same h = record {
  tree = h.tree;
  cost = h.cost;
  permutation = h.permutation;
  root = h.root;
  same_size = h.same_size;
  permutes = h.permutes;
  costs = h.costs;
  no_dearer = h.no_dearer;
  valid = h.valid;
  taken_apart = λ f. sym (same f) ∙ h.taken_apart f;
  counted = h.counted;
}

-- a commit that replaces an open node by a decided one leads from a cut tree to a cut tree
pub cut_trees_kept : (S : Search) → IsKept (IsCutTree S) (MayReplace S.instance)
cut_trees_kept S gone kept added rest commits may h = replacement S gone kept added rest _ commits may (λ f. refl) h

-- the cut trees of a search, and such commits, are its law
pub cut_trees_are_law : (S : Search) → IsLawOf S (IsCutTree S) (MayReplace S.instance)
cut_trees_are_law S = record { is_cut_tree = λ xs commits h. h; is_lawful = λ xs commits h. h; may_replace = λ gone kept added h. h }
