-- Which entries each holder holds, by number.
use Rattle.std.specs.Prelude.{◌≡◌, ℕ, ◌<◌, ◌==◌, ◌&&◌, ◌||◌, not, Bool, List, AllPairs, filter, map}
use Rattle.std.specs.List.{list_any}
use Rattle.tuple_space.specs.Entry.{is_held_by}
use Rattle.tuple_space.specs.Rows.{has_number}
use Rattle.tuple_space.specs.declared.entry.Entry.{Entry}
use Rattle.tuple_space.specs.declared.held.Held.{Held}

-- a number is one of these
abbrev pub is_among : ℕ → List ℕ → Bool
is_among number numbers = list_any (λ n. number == n) numbers

-- the numbers increase
abbrev pub AreRising : List ℕ → Type 0
AreRising numbers = AllPairs (λ x y. x < y) numbers

-- the numbers of the entries that are stored with a holder
abbrev pub numbers_by : ℕ → List Held → List ℕ
numbers_by holder rows = map (λ r. r.entry) (filter (λ r. r.by == holder) rows)

-- a holder holds the entry of a number
abbrev pub holds_number : ℕ → ℕ → List Entry → Bool
holds_number holder number entries = list_any (λ e. (e.number == number) && is_held_by holder e) entries

-- these numbers increase, and they are those of the entries that the holder holds
pub record HasHeldBy (holder : ℕ) (numbers : List ℕ) (entries : List Entry) : Type 0 where
  pub rising : AreRising numbers
  pub exact : (number : ℕ) → is_among number numbers ≡ holds_number holder number entries

-- each holder is stored with the numbers of exactly the entries that it holds, in ascending order
pub record HasHeld (rows : List Held) (entries : List Entry) : Type 0 where
  pub of : (holder : ℕ) → HasHeldBy holder (numbers_by holder rows) entries

-- a row is kept if entries are removed, and with them all rows of a holder, or of everybody, that are of none of these
abbrev pub stays_noted : ℕ → Bool → List Entry → Held → Bool
stays_noted holder all entries row = (not all && not (row.by == holder)) || has_number row.entry entries
