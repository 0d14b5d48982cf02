-- Numbers as certificates and proofs spell them: each whole number has one word.
use Rattle.std.specs.Prelude.{◌≡◌, ℕ, suc, ◌-◌, ◌^◌, ◌≤◌, ◌<◌, ◌++◌, ◌∷◌, [], List, length, map, ℤ, pos, negsuc, slice_index}
use Rattle.std.specs.Int.Digits.{number_from_digits}
use Rattle.qap_io.specs.Number as number

-- decimal digits of n, the first of which is 0 only if it is the only one
pub record IsDecimal (word : List ℕ) (n : ℕ) : Type 0 where
  pub nonempty : 0 < length word
  pub digits : (i : ℕ) → i < length word → (48 ≤ slice_index word i) × (slice_index word i ≤ 57)
  pub value : number_from_digits 10 (map (λ b. b - 48) word) ≡ n
  pub leading : slice_index word 0 ≡ 48 → length word ≡ 1

-- the word of a number: a minus sign precedes the digits of a negative one
abbrev pub IsNumber : List ℕ → ℤ → Type 0
IsNumber word (pos n) = IsDecimal word n
IsNumber word (negsuc n) = (digits : List ℕ) × (word ≡ 45 ∷ digits) × IsDecimal digits (suc n)

-- the words of these numbers, each after one space, and nothing else
abbrev pub Spells : List ℕ → List ℤ → Type 0
Spells text [] = text ≡ []
Spells text (z ∷ zs) = (word rest : List ℕ) × (text ≡ 32 ∷ word ++ rest) × IsNumber word z × Spells rest zs

-- a line of a name and numbers
pub record IsNamed (name line : List ℕ) (zs : List ℤ) : Type 0 where
  pub numbers : List ℕ
  pub is : line ≡ name ++ numbers
  pub spelled : Spells numbers zs

-- the nearest number from -10^25 to 10^25
abbrev pub held : ℤ → ℤ
held = number.held (10 ^ 25)
