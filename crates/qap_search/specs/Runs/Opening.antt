-- The initial space of a search.
use Rattle.std.specs.Prelude.{◌≡◌, List}
use Rattle.tuple_space.specs.Space.{put}
use Rattle.tuple_space.specs.declared.lease.Lease.TheVariants.{Forever}
use Rattle.tuple_match.specs.FieldValue.{FieldValue}
use Rattle.space_txn.specs.Content.{content_of}
use Rattle.space_txn.specs.World.{World, opening, with_space}
use Rattle.qap_search.specs.Law.CutTree.{IsCutTree}
use Rattle.qap_search.specs.Tuples.Piece.{node_tuple}
use Rattle.qap_search.specs.Law.Replacement.{tuple_of}
use Rattle.qap_search.specs.Law.Search.{Search}

-- a tuple written permanently
abbrev pub with_tuple : World → List FieldValue → World
with_tuple w tuple = with_space w (put w.space tuple Forever)

-- the open root, and the known permutation as the incumbent
abbrev pub opening_of : Search → World
opening_of S = with_tuple (with_tuple opening (node_tuple S.root)) (tuple_of S.known)

-- its tuples are a cut tree of the search, before any commit
pub record IsOpening (S : Search) (w : World) : Type 0 where
  pub is : w ≡ opening_of S
  pub cut_tree : IsCutTree S (content_of w) 0
  pub fresh : w.commits ≡ 0
