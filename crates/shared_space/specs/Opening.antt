-- What is needed to put a space under a law.
use Rattle.std.specs.Prelude.{◌≡◌, ℕ, Option}
use Rattle.std.specs.declared.sync.ledger.Blank.{Blank}
use Rattle.space_txn.specs.Content.{content_of}
use Rattle.space_txn.specs.World.{World}
use Rattle.shared_space.specs.Law.{Content}
use Rattle.shared_space.specs.Limit.{is_reached}
use Rattle.shared_space.specs.Place.{Place, place_of}

-- a blank for the ledger of this name, which has one part for each share
pub record IsBlankFor (name parts : ℕ) (blank : Blank) (shares : ℕ) : Type 0 where
  pub named : blank.name ≡ name
  pub divided : blank.parts ≡ parts
  pub one_each : shares ≡ parts

-- a space at its opening: no worker has left, and it is closed only under a limit of 0
abbrev pub opened : World → ℕ → Option ℕ → Place
opened w shares limit = place_of w shares 0 (is_reached limit 0)

-- a space that may be put under a law: its content is lawful, it has accepted no commit, and its opening is a place that is reached
pub record MayOpen (lawful : Content → ℕ → Type 0) (limit : Option ℕ) (reached : Place → Type 0) (w : World) (shares : ℕ) : Type 0 where
  pub content : lawful (content_of w) w.commits
  pub fresh : w.commits ≡ 0
  pub place : reached (opened w shares limit)
