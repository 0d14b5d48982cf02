-- Texts of instances, as the library QAPLIB (Burkard, Karisch and Rendl 1997) writes them, and their faults.
use Rattle.std.specs.Prelude.{◌≡◌, ℕ, ◌*◌, ◌<◌, ◌≤◌, ◌⊎◌, List, ◌∷◌, ◌++◌, length, drop, ℤ, pos, ◌≤ℤ◌, ◌<ℤ◌, unsigned_abs}
use Rattle.qap_cost.specs.Limits.{max_size, max_entry}
use Rattle.qap_cost.specs.Instance.{Problem, IsInstance}
use Rattle.qap_cost.specs.Row.{AllInRange}
use Rattle.qap_text.specs.Word.{HasNoWord}
use Rattle.qap_text.specs.Spelling.{IsNumberAt, IsNoNumberAt, Spells}
use Rattle.qap_text.specs.declared.error.TextError.{TextError}
use Rattle.qap_text.specs.declared.error.TextError.TheVariants.{Empty, NotANumber, SizeZero, SizeTooLarge, EntryRange, CountDiffers}

-- the text spells the size, A by rows and B by rows, and then the rest follows
pub record IsInstanceText (text : List ℕ) (I : Problem) (rest : List ℕ) : Type 0 where
  pub instance : IsInstance I
  pub stop : ℕ
  pub spelled : Spells text 0 (pos I.size ∷ I.a ++ I.b) stop
  pub follows : rest ≡ drop stop text

-- the first word is not a size
abbrev pub IsSizeFault : List ℕ → TextError → Type 0
IsSizeFault text Empty = HasNoWord text 0
IsSizeFault text (NotANumber place) = IsNoNumberAt text 0 place
IsSizeFault text (SizeZero place) = (stop : ℕ) × (z : ℤ) × IsNumberAt text 0 place stop z × (z ≤ℤ pos 0)
IsSizeFault text (SizeTooLarge place) = (stop : ℕ) × (z : ℤ) × IsNumberAt text 0 place stop z × (pos max_size <ℤ z)
IsSizeFault text _ = ⊥

-- the next word from a position on is not an entry
abbrev pub IsEntryFault : List ℕ → ℕ → TextError → Type 0
IsEntryFault text from CountDiffers = HasNoWord text from
IsEntryFault text from (NotANumber place) = IsNoNumberAt text from place
IsEntryFault text from (EntryRange place) = (stop : ℕ) × (z : ℤ) × IsNumberAt text from place stop z × (max_entry < unsigned_abs z)
IsEntryFault text from _ = ⊥

-- from a position on there are valid entries, fewer than required, and then an invalid one
pub record HasEntryFault (text : List ℕ) (from wanted : ℕ) (e : TextError) : Type 0 where
  pub entries : List ℤ
  pub stop : ℕ
  pub spelled : Spells text from entries stop
  pub in_range : AllInRange entries
  pub too_few : length entries < wanted
  pub fault : IsEntryFault text stop e

-- a valid size, and then an invalid entry, the first one
pub record HasInstanceEntryFault (text : List ℕ) (e : TextError) : Type 0 where
  pub size : ℕ
  pub positive : 0 < size
  pub small : size ≤ max_size
  pub start : ℕ
  pub stop : ℕ
  pub spelled : IsNumberAt text 0 start stop (pos size)
  pub fault : HasEntryFault text stop (2 * (size * size)) e

-- the first fault of a text that is not an instance's
abbrev pub IsInstanceFault : List ℕ → TextError → Type 0
IsInstanceFault text e = IsSizeFault text e ⊎ HasInstanceEntryFault text e
