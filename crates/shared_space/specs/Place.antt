-- A single-threaded space with its workers.
use Rattle.std.specs.Prelude.{ℕ, ◌+◌, Bool, ◌||◌, ◌==◌, nat_le, nat_lt, List, count_by, if◌then◌else◌}
use Rattle.tuple_match.specs.PatternValue.{PatternValue}
use Rattle.tuple_space.specs.Entry.{is_counted}
use Rattle.tuple_space.specs.Space.{SpaceValue}
use Rattle.space_txn.specs.World.{World, with_space}

-- its world, the number of its shares, the number of workers that have left, and whether it is closed
pub record Place : Type 0 where
  pub world : World
  pub shares : ℕ
  pub left : ℕ
  pub closed : Bool

-- the place with these parts
abbrev pub place_of : World → ℕ → ℕ → Bool → Place
place_of world shares left closed = record { world = world; shares = shares; left = left; closed = closed }

-- it should be closed: it already is, or every worker has left, or no live entry matches
abbrev pub is_to_close : Place → List PatternValue → Bool
is_to_close p template =
    p.closed || (nat_le p.shares p.left || (count_by (is_counted p.world.space.moment template) p.world.space.entries == 0))

-- one more worker has left; no more leave than there are shares
abbrev pub one_left : Place → Place
one_left p = if nat_lt p.left p.shares then record p { left = p.left + 1 } else p

-- the same place with another space
abbrev pub with_place_space : Place → SpaceValue → Place
with_place_space p s = record p { world = with_space p.world s }
