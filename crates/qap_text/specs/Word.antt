-- Words of a text, as the library of instances QAPLIB (Burkard, Karisch and Rendl 1997) separates them: by white space,
-- and here by commas too.
use Rattle.std.specs.Prelude.{◌≡◌, ℕ, ◌<◌, ◌≤◌, Bool, true, false, not, ◌||◌, ◌&&◌, ◌==◌, nat_le, if◌then◌else◌, List, [], ◌∷◌, length, slice_index}

-- tab, line feed, vertical tab, form feed, carriage return, blank and comma
abbrev pub is_separator : ℕ → Bool
is_separator b = (nat_le 9 b && nat_le b 13) || (b == 32) || (b == 44)

-- from a position on, the first word is from start up to stop: only separators precede it, it has no separator and is
-- not empty, and it is maximal
pub record IsWordAt (text : List ℕ) (from start stop : ℕ) : Type 0 where
  pub from_here : from ≤ start
  pub not_empty : start < stop
  pub in_text : stop ≤ length text
  pub gap : (k : ℕ) → from ≤ k → k < start → is_separator (slice_index text k) ≡ true
  pub letters : (k : ℕ) → start ≤ k → k < stop → is_separator (slice_index text k) ≡ false
  pub longest : stop < length text → is_separator (slice_index text stop) ≡ true

-- from a position on there are only separators
pub record HasNoWord (text : List ℕ) (from : ℕ) : Type 0 where
  pub gap : (k : ℕ) → from ≤ k → k < length text → is_separator (slice_index text k) ≡ true

-- the first position from one on that has a separator, or has none; else the end
pub record IsFirstThatIs (separator : Bool) (text : List ℕ) (from place : ℕ) : Type 0 where
  pub from_here : from ≤ place
  pub in_text : place ≤ length text
  pub before : (k : ℕ) → from ≤ k → k < place → is_separator (slice_index text k) ≡ not separator
  pub at : place < length text → is_separator (slice_index text place) ≡ separator

-- the text after its leading separators
abbrev pub after_separators : List ℕ → List ℕ
after_separators [] = []
after_separators (b ∷ bs) = if is_separator b then after_separators bs else b ∷ bs
