-- Texts of solutions, as the library QAPLIB (Burkard, Karisch and Rendl 1997) writes them, and their faults.
use Rattle.std.specs.Prelude.{◌≡◌, ◌≢◌, ℕ, ◌+◌, ◌<◌, ◌≤◌, ◌⊎◌, List, [], ◌∷◌, length, ℤ, pos, ◌≤ℤ◌, ◌<ℤ◌, unsigned_abs, slice_index}
use Rattle.qap_cost.specs.Limits.{max_value}
use Rattle.qap_cost.specs.Bijection.{AreDifferent, IsPerm}
use Rattle.qap_io.specs.Number.{from_one}
use Rattle.qap_text.specs.Word.{HasNoWord}
use Rattle.qap_text.specs.Spelling.{IsNumberAt, IsNoNumberAt, Spells}
use Rattle.qap_text.specs.declared.error.TextError.{TextError}
use Rattle.qap_text.specs.declared.error.TextError.TheVariants.{Empty, NotANumber, SizeDiffers, ValueRange, NotPermutation, CountDiffers}

-- the text spells the size, the objective value, and each facility's location; what follows is ignored
pub record IsSolutionText (text : List ℕ) (n : ℕ) (value : ℤ) (p : List ℕ) : Type 0 where
  pub permutation : IsPerm p
  pub same_size : length p ≡ n
  pub in_range : unsigned_abs value ≤ max_value
  pub stop : ℕ
  pub spelled : Spells text 0 (pos n ∷ value ∷ from_one p) stop

-- the first word is not the size n
abbrev pub IsOtherSizeFault : List ℕ → ℕ → TextError → Type 0
IsOtherSizeFault text n Empty = HasNoWord text 0
IsOtherSizeFault text n (NotANumber place) = IsNoNumberAt text 0 place
IsOtherSizeFault text n (SizeDiffers place) = (stop : ℕ) × (z : ℤ) × IsNumberAt text 0 place stop z × (z ≢ pos n)
IsOtherSizeFault text n _ = ⊥

-- the next word from a position on is not an objective value
abbrev pub IsValueFault : List ℕ → ℕ → TextError → Type 0
IsValueFault text from CountDiffers = HasNoWord text from
IsValueFault text from (NotANumber place) = IsNoNumberAt text from place
IsValueFault text from (ValueRange place) = (stop : ℕ) × (z : ℤ) × IsNumberAt text from place stop z × (max_value < unsigned_abs z)
IsValueFault text from _ = ⊥

-- a number that is not from 1 to n, or is spelled by one of the locations before it
abbrev pub IsNoLocation : ℕ → List ℕ → ℤ → Type 0
IsNoLocation n earlier z = (z ≤ℤ pos 0) ⊎ ((pos n <ℤ z) ⊎ ((i : ℕ) × (i < length earlier) × (z ≡ pos (slice_index earlier i + 1))))

-- the next word from a position on is not a location that the ones before it leave
abbrev pub IsLocationFault : List ℕ → ℕ → ℕ → List ℕ → TextError → Type 0
IsLocationFault text from n earlier CountDiffers = HasNoWord text from
IsLocationFault text from n earlier (NotANumber place) = IsNoNumberAt text from place
IsLocationFault text from n earlier (NotPermutation place) = (stop : ℕ) × (z : ℤ) × IsNumberAt text from place stop z × IsNoLocation n earlier z
IsLocationFault text from n earlier _ = ⊥

-- from a position on there are valid locations, fewer than n, and then an invalid one
pub record HasLocationFault (text : List ℕ) (from n : ℕ) (e : TextError) : Type 0 where
  pub earlier : List ℕ
  pub stop : ℕ
  pub spelled : Spells text from (from_one earlier) stop
  pub right : AreDifferent n earlier
  pub too_few : length earlier < n
  pub fault : IsLocationFault text stop n earlier e

-- the size n, and then an invalid value
pub record HasValueFault (text : List ℕ) (n : ℕ) (e : TextError) : Type 0 where
  pub start : ℕ
  pub stop : ℕ
  pub size : IsNumberAt text 0 start stop (pos n)
  pub fault : IsValueFault text stop e

-- the size n and a valid value, and then an invalid location, the first one
pub record HasSolutionLocationFault (text : List ℕ) (n : ℕ) (e : TextError) : Type 0 where
  pub value : ℤ
  pub in_range : unsigned_abs value ≤ max_value
  pub stop : ℕ
  pub spelled : Spells text 0 (pos n ∷ value ∷ []) stop
  pub fault : HasLocationFault text stop n e

-- the first fault of a text that is not a solution's of size n
abbrev pub IsSolutionFault : List ℕ → ℕ → TextError → Type 0
IsSolutionFault text n e = IsOtherSizeFault text n e ⊎ (HasValueFault text n e ⊎ HasSolutionLocationFault text n e)
