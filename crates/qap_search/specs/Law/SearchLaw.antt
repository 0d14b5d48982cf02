-- The law of a space that holds a search.
use Rattle.std.specs.Prelude.{ℕ}
use Rattle.qap_cost.specs.Instance.{Problem}
use Rattle.qap_cost.specs.Placement.{Placement}
use Rattle.shared_space.specs.Law.{Content}
use Rattle.qap_search.specs.Law.CutTree.{IsCutTree}
use Rattle.qap_search.specs.Law.Replacement.{Best, MayReplace}
use Rattle.qap_search.specs.Law.Search.{Search, search_of}

-- exactly the cut trees of the search are lawful, and a commit is allowed if it replaces an open node with a decided one
pub record IsLawOf (S : Search) (lawful : Content → ℕ → Type 0) (allowed : Content → Content → Content → Type 0) : Type 0 where
  pub is_cut_tree : (xs : Content) (commits : ℕ) → lawful xs commits → IsCutTree S xs commits
  pub is_lawful : (xs : Content) (commits : ℕ) → IsCutTree S xs commits → lawful xs commits
  pub may_replace : (gone kept added : Content) → MayReplace S.instance gone kept added → allowed gone kept added

-- it is the law of a search of the instance, over some root and with some known permutation
abbrev pub IsSearchLaw : Problem → (Content → ℕ → Type 0) → (Content → Content → Content → Type 0) → Type 0
IsSearchLaw I lawful allowed = (x : Placement) × (b : Best) × IsLawOf (search_of I x b) lawful allowed
