-- Numbers at the beginning of a text.
use Rattle.std.specs.Prelude.{◌≡◌, ℕ, ◌^◌, ◌≤◌, ◌++◌, List, length, take, min, ℤ, slice_index}
use Rattle.qap_io.specs.Digits.{IsNoDigit}
use Rattle.qap_lines.specs.Number.{IsDecimal, IsNumber, held}

-- the text begins with the word, and no digit follows
pub record IsFront (text word : List ℕ) : Type 0 where
  pub rest : List ℕ
  pub is : text ≡ word ++ rest
  pub ends : IsNoDigit (slice_index rest 0)

-- the text begins with a number without a sign, of this many bytes
pub record IsFrontDecimal (text : List ℕ) (count magnitude : ℕ) : Type 0 where
  pub in_text : count ≤ length text
  pub front : IsFront text (take count text)
  pub number : ℕ
  pub spelled : IsDecimal (take count text) number
  pub value : magnitude ≡ min number (10 ^ 25)

-- the text begins with a number of this many bytes
pub record IsFrontNumber (text : List ℕ) (count : ℕ) (value : ℤ) : Type 0 where
  pub in_text : count ≤ length text
  pub front : IsFront text (take count text)
  pub number : ℤ
  pub spelled : IsNumber (take count text) number
  pub is : value ≡ held number

-- the text does not begin with a number without a sign
pub record HasNoFrontDecimal (text : List ℕ) : Type 0 where
  pub none : (word : List ℕ) (n : ℕ) → IsFront text word → IsDecimal word n → ⊥

-- the text does not begin with a number
pub record HasNoFrontNumber (text : List ℕ) : Type 0 where
  pub none : (word : List ℕ) (z : ℤ) → IsFront text word → IsNumber word z → ⊥
