-- Acts on a space behind its lock, and runs of it: one act after another, each a step of the machine.
use Rattle.std.specs.Prelude.{◌≡◌, ℕ, zero, suc, ◌++◌, Bool, true, false, List, [], ◌∷◌, All, Option}
use Rattle.tuple_space.specs.Step as space
use Rattle.space_txn.specs.Content.{ChangesContent, KeepsContent, SameItems}
use Rattle.space_txn.specs.Machine.{commit, done}
use Rattle.space_txn.specs.World.{World}
use Rattle.shared_space.specs.Event.{Event, Reply, answered, begin, call}
use Rattle.shared_space.specs.Law.{Content, MayCommit}
use Rattle.shared_space.specs.Limit.{DidWithin}
use Rattle.shared_space.specs.Place.{Place, one_left, with_place_space}

-- a worker's event with its reply; a call outside all transactions with its reply; one more worker has left; the space is closed,
-- regardless of its content
pub data Act : Type 0 where
  asks : Event → Reply → Act
  outside : space.Event → space.Reply → Act
  leaves : Act
  shuts : Act

-- From old, under a limit of commits, the act may lead to new.
abbrev pub Acts : Option ℕ → Place → Act → Place → Type 0
Acts limit old (asks event reply) new = DidWithin limit old event reply new
Acts limit old (outside event reply) new =
    space.Step old.world.space event reply new.world.space × (new ≡ with_place_space old new.world.space)
Acts limit old leaves new = new ≡ one_left old
Acts limit old shuts new = new ≡ record old { closed = true }

-- a call outside all transactions that only looks at the space; any other only where such calls may change it
abbrev pub IsAllowedOutside : Type 0 → space.Event → Type 0
IsAllowedOutside changes (space.rdp template) = Unit {0}
IsAllowedOutside changes (space.count template) = Unit {0}
IsAllowedOutside changes space.now = Unit {0}
IsAllowedOutside changes _ = changes

-- a commit is an allowed one, a transaction begins with an allowed lease, and a call outside all transactions is allowed
abbrev pub IsAllowedAct : (Content → Content → Content → Type 0) → (ℕ → Type 0) → Type 0 → Act → Type 0
IsAllowedAct allowed begins changes (asks (call t commit) reply) = MayCommit allowed t
IsAllowedAct allowed begins changes (asks (begin lease) reply) = begins lease
IsAllowedAct allowed begins changes (outside event reply) = IsAllowedOutside changes event
IsAllowedAct allowed begins changes _ = Unit {0}

-- what an act does to the content: an accepted commit changes it by what its transaction took, read and wrote, and no other act of
-- a worker changes it; what a call outside all transactions does to it, the machine says
abbrev pub ActsOnContent : World → Act → World → Type 0
ActsOnContent old (asks (call t commit) (answered done t')) new = ChangesContent old new t
ActsOnContent old (outside event reply) new = Unit {0}
ActsOnContent old _ new = KeepsContent old new

-- the act is a commit that was accepted
abbrev pub is_accepted : Act → Bool
is_accepted (asks (call t commit) (answered done t')) = true
is_accepted _ = false

-- from old, the acts lead to new, in sequence
abbrev pub LeadTo : Option ℕ → Place → List Act → Place → Type 0
LeadTo limit old [] new = new ≡ old
LeadTo limit old (act ∷ acts) new =
    (next : Place) × Acts limit old act next × LeadTo limit next acts new × ActsOnContent old.world act next.world

-- a run from one place to another: acts that lead there, each of them allowed
pub record Run (allowed : Content → Content → Content → Type 0) (begins : ℕ → Type 0) (changes : Type 0) (limit : Option ℕ) (old new : Place) : Type 0 where
  pub acts : List Act
  pub allowed_each : All (IsAllowedAct allowed begins changes) acts
  pub lead : LeadTo limit old acts new

-- reachability is preserved: each allowed act leads from a reachable place to a reachable one
abbrev pub GoesOn : (Content → Content → Content → Type 0) → (ℕ → Type 0) → Type 0 → Option ℕ → (Place → Type 0) → Type 0
GoesOn allowed begins changes limit reached =
    (old new : Place) (act : Act) → IsAllowedAct allowed begins changes act → Acts limit old act new → ActsOnContent old.world act new.world
    → reached old → reached new

-- a content becomes another one by one allowed commit: what goes is removed, and what is added put in; what is read stays, as does the rest
pub record Replaces (allowed : Content → Content → Content → Type 0) (old new : Content) : Type 0 where
  pub gone : Content
  pub kept : Content
  pub added : Content
  pub rest : Content
  pub may : allowed gone kept added
  pub before : SameItems old (gone ++ (kept ++ rest))
  pub after : SameItems new (added ++ (kept ++ rest))

-- by this many allowed commits, one after the other, and by nothing else
abbrev pub ChangesBy : (Content → Content → Content → Type 0) → ℕ → Content → Content → Type 0
ChangesBy allowed zero old new = SameItems new old
ChangesBy allowed (suc n) old new = (next : Content) × Replaces allowed old next × ChangesBy allowed n next new

-- one of the reachable places has this world
pub record IsReached (reached : Place → Type 0) (w : World) : Type 0 where
  pub place : Place
  pub is : place.world ≡ w
  pub holds : reached place
