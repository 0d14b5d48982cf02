-- A limit of commits, which the law of a space may set.
use Rattle.std.specs.Prelude.{◌≡◌, ℕ, ◌≤◌, ◌==◌, Bool, true, false, ◌||◌, Option, Some, None}
use Rattle.space_txn.specs.Content.{content_of}
use Rattle.space_txn.specs.Machine.{Step, commit}
use Rattle.space_txn.specs.Txn.{TxnValue}
use Rattle.shared_space.specs.Event.{Did, Event, Reply, call, answered, limited}
use Rattle.shared_space.specs.Law.{Content}
use Rattle.shared_space.specs.Place.{Place}

-- this many commits are at most the limit, if there is one
abbrev pub IsWithin : Option ℕ → ℕ → Type 0
IsWithin None commits = Unit {0}
IsWithin (Some limit) commits = commits ≤ limit

-- this many commits are the limit
abbrev pub is_reached : Option ℕ → ℕ → Bool
is_reached None commits = false
is_reached (Some limit) commits = commits == limit

-- its commits are at most the limit, and if they equal the limit it is closed
pub record IsLimited (limit : Option ℕ) (p : Place) : Type 0 where
  pub within : IsWithin limit p.world.commits
  pub closed : is_reached limit p.world.commits ≡ true → p.closed ≡ true

-- what holds of a space under a law: its content is lawful, its commits are within the limit, and the place is one that is reached
pub record IsUnderLaw (lawful : Content → ℕ → Type 0) (limit : Option ℕ) (reached : Place → Type 0) (p : Place) : Type 0 where
  pub content : lawful (content_of p.world) p.world.commits
  pub limited : IsLimited limit p
  pub place : reached p

-- A commit under a limit: if the limit is reached it changes nothing. Otherwise it is the machine's, and the space is closed
-- if the limit is then reached.
abbrev pub CommitWithin : Option ℕ → Place → TxnValue → Reply → Place → Type 0
CommitWithin limit old t limited new = (is_reached limit old.world.commits ≡ true) × (new ≡ old)
CommitWithin limit old t (answered answer t') new =
    (is_reached limit old.world.commits ≡ false) × Step old.world t commit answer new.world t'
    × (new ≡ record old { world = new.world; closed = old.closed || is_reached limit new.world.commits })
CommitWithin limit old t _ new = ⊥

-- From old, a space with a limit may give this reply to the event and go on to new.
abbrev pub DidWithin : Option ℕ → Place → Event → Reply → Place → Type 0
DidWithin limit old (call t commit) reply new = CommitWithin limit old t reply new
DidWithin limit old event reply new = Did old event reply new
