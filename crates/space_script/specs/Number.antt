-- Numbers as the words of a script spell them.
use Rattle.std.specs.Prelude.{◌≡◌, ◌⊎◌, ℕ, ◌^◌, ◌<◌, ◌≤◌, true, List, ◌∷◌, length, ℤ, pos, neg_ℤ}
use Rattle.std.specs.Char.{is_ascii_digit}
use Rattle.std.specs.List.{list_all}
use Rattle.std.specs.Str.Parse.{digits_value}

-- one or more decimal digits, and their value
pub record IsNumeral (word : List ℕ) (n : ℕ) : Type 0 where
  pub some : 0 < length word
  pub digits : list_all is_ascii_digit word ≡ true
  pub value : digits_value 10 word ≡ n

-- the digits of a number below 2^64
pub record IsCount (word : List ℕ) (n : ℕ) : Type 0 where
  pub numeral : IsNumeral word n
  pub fits : n < 2 ^ 64

-- the digits of a number below 2^127
pub record IsPlain (word : List ℕ) (z : ℤ) : Type 0 where
  pub size : ℕ
  pub numeral : IsNumeral word size
  pub fits : size < 2 ^ 127
  pub value : z ≡ pos size

-- a minus sign, and the digits of a number of at most 2^127
pub record IsNegated (word : List ℕ) (z : ℤ) : Type 0 where
  pub digits : List ℕ
  pub is : word ≡ 45 ∷ digits
  pub size : ℕ
  pub numeral : IsNumeral digits size
  pub fits : size ≤ 2 ^ 127
  pub value : z ≡ neg_ℤ (pos size)

-- the word of a number of 128 bits
abbrev pub IsInteger : List ℕ → ℤ → Type 0
IsInteger word z = IsPlain word z ⊎ IsNegated word z
