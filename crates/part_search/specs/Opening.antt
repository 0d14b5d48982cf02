-- The initial space of a search.
use Rattle.std.specs.Prelude.{◌≡◌, ℕ, List}
use Rattle.qap_cost.specs.Instance.{Problem}
use Rattle.qap_cost.specs.Placement.{Placement}
use Rattle.space_txn.specs.Content.{content_of}
use Rattle.space_txn.specs.World.{World, with_space}
use Rattle.subtree_search.specs.Best.{Best}
use Rattle.tuple_match.specs.FieldValue.{FieldValue}
use Rattle.tuple_space.specs.Space.{put}
use Rattle.tuple_space.specs.declared.lease.Lease.TheVariants.{Forever}
use Rattle.part_search.specs.Law.{IsSearched, Part, best_with}

-- the part that is searched, starting from a permutation
abbrev pub part_of : Problem → Placement → Best → Part
part_of I root start = record { instance = I; root = root; start = start }

-- the same from this permutation with its cost
abbrev pub part_from : Problem → Placement → List ℕ → Part
part_from I root permutation = part_of I root (best_with I permutation)

-- a tuple written permanently
abbrev pub with_tuple : World → List FieldValue → World
with_tuple w tuple = with_space w (put w.space tuple Forever)

-- its tuples satisfy the law, before any commit
pub record IsOpening (S : Part) (w : World) : Type 0 where
  pub searched : IsSearched S (content_of w)
  pub fresh : w.commits ≡ 0
