-- The world: the space, in which each entry records who took or read it, and the live transactions.
use Rattle.std.specs.Prelude.{ℕ, ◌+◌, ◌<◌, ◌≤◌, nat_lt, All, Bool, List, [], ◌∷◌, ◌++◌, if◌then◌else◌}
use Rattle.std.specs.List.{AllPairs}
use Rattle.tuple_space.specs.Lease.{granted_end}
use Rattle.tuple_space.specs.Space as space
use Rattle.tuple_space.specs.Space.{SpaceValue, most, advanced}
use Rattle.space_txn.specs.Live.{AreHeldBy, abort_each, ended_at, going_at, is_live_in, others, renewed_rows, unmarked}
use Rattle.space_txn.specs.declared.live.Live.{Live}

-- `begun` is the number of the transaction that was begun last, `commits` the number of accepted ones
pub record World : Type 0 where
  pub space : SpaceValue
  pub live : List Live
  pub begun : ℕ
  pub commits : ℕ

-- the world of a space and live transactions, with the last number begun and the count of commits
abbrev pub world_of : SpaceValue → List Live → ℕ → ℕ → World
world_of s live begun commits = record { space = s; live = live; begun = begun; commits = commits }

-- What holds for every world: the numbers of the live transactions increase, from 1 to the one given last, and each hold
-- of an entry is that of a transaction which is live at the space's moment.
pub record IsWorld (w : World) : Type 0 where
  pub few_begun : w.begun ≤ most
  pub few_commits : w.commits ≤ most
  pub from_1 : All (λ t. 0 < t.number) w.live
  pub given : All (λ t. t.number ≤ w.begun) w.live
  pub rising : AllPairs (λ t u. t.number < u.number) w.live
  pub held : AreHeldBy w.space.moment w.live w.space.entries

-- nothing has happened yet
abbrev pub opening : World
opening = world_of space.opening [] 0 0

-- the world with another space
abbrev pub with_space : World → SpaceValue → World
with_space w s = world_of s w.live w.begun w.commits

-- a transaction with this number is live
abbrev pub is_live_transaction : World → ℕ → Bool
is_live_transaction w number = is_live_in w.space.moment number w.live

-- a transaction begun under the next number
abbrev pub begin_at : World → ℕ → World
begin_at w asked =
    world_of w.space (w.live ++ record { number = w.begun + 1; end = granted_end w.space.moment asked } ∷ []) (w.begun + 1) w.commits

-- a transaction's lease renewed: it ends at its old end or at that of a lease granted now, whichever is later
abbrev pub renew_at : World → ℕ → ℕ → World
renew_at w number asked = world_of w.space (renewed_rows number (granted_end w.space.moment asked) w.live) w.begun w.commits

-- a transaction ended: its marks are dropped
abbrev pub abort_at : World → ℕ → World
abort_at w number = world_of (unmarked number w.space) (others number w.live) w.begun w.commits

-- the moment advanced: the transactions whose lease has ended are aborted, and then entries that are gone are dropped; an
-- earlier moment changes nothing
abbrev pub advance_at : World → ℕ → World
advance_at w moment =
    if nat_lt moment w.space.moment then w
    else world_of (advanced moment (abort_each (ended_at moment w.live) w.space)) (going_at moment w.live) w.begun w.commits
