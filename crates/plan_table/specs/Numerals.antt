-- Numbers as spreadsheets write them: with a point or a comma, in groups of three digits, and with an exponent.
use Rattle.std.specs.Prelude.{ℕ, ◌+◌, ◌-◌, ◌%◌, ◌==◌, Bool, true, false, not, ◌&&◌, ◌||◌, nat_le, nat_lt, if◌then◌else◌, List, [], ◌∷◌, ◌++◌, length, map, replicate, take, drop, position, Option, Some, None, pos}
use Rattle.std.specs.List.{filter, list_all}
use Rattle.std.specs.Str.{chars}
use Rattle.plan_table.specs.Decimal.{decimal_of, is_digit, magnitude_of}
use Rattle.plan_table.specs.Rounding.{rounded_decimal_of}
use Rattle.plan_table.specs.declared.decimal.Decimal.{Decimal}
use Rattle.plan_table.specs.declared.numeral.DecimalMark.{DecimalMark}
use Rattle.plan_table.specs.declared.numeral.DecimalMark.TheVariants.{Point, Comma}
use Rattle.plan_table.specs.declared.numeral.Reading.{Reading}

-- the mark before a fraction, and the other one, which may then separate groups of digits
abbrev pub decimal_byte : DecimalMark → ℕ
decimal_byte Point = 46
decimal_byte Comma = 44

-- the mark that may separate groups of digits: the other one
abbrev pub group_byte : DecimalMark → ℕ
group_byte Point = 44
group_byte Comma = 46

-- a byte of a number with `left` bytes from it on: each fourth from the right is the group separator, and the others are digits
abbrev pub is_in_place : ℕ → ℕ → ℕ → Bool
is_in_place group byte left = if left % 4 == 0 then byte == group else is_digit byte

-- likewise for all bytes of a number
abbrev pub are_in_place : ℕ → List ℕ → Bool
are_in_place group [] = true
are_in_place group (b ∷ bs) = is_in_place group b (length bs + 1) && are_in_place group bs

-- a text begins with the digit 0
abbrev pub leads_with_zero : List ℕ → Bool
leads_with_zero [] = false
leads_with_zero (b ∷ bs) = b == 48

-- groups of three digits, of which the first may be shorter and does not begin with 0, with this separator
abbrev pub are_groups : ℕ → List ℕ → Bool
are_groups group text = not (length text % 4 == 0) && (not (leads_with_zero text) && are_in_place group text)

-- the digits before a fraction: not grouped, or in groups separated by the other mark, a blank or an apostrophe
abbrev pub is_whole : DecimalMark → List ℕ → Bool
is_whole mark text =
    list_all is_digit text || (are_groups (group_byte mark) text || (are_groups 32 text || are_groups 39 text))

-- a leading sign, and what follows it
abbrev pub is_sign : ℕ → Bool
is_sign b = b == 43 || b == 45

-- the leading sign of a text, if there is one
abbrev pub sign_of : List ℕ → List ℕ
sign_of [] = []
sign_of (b ∷ bs) = if is_sign b then b ∷ [] else []

-- a text without its leading sign
abbrev pub without_sign : List ℕ → List ℕ
without_sign [] = []
without_sign (b ∷ bs) = if is_sign b then bs else b ∷ bs

-- what is before the first decimal mark, and what is after it
abbrev pub front_to : List ℕ → Option ℕ → List ℕ
front_to text None = text
front_to text (Some i) = take i text

-- what is after the first decimal mark; nothing if there is none
abbrev pub behind_at : List ℕ → Option ℕ → List ℕ
behind_at text None = []
behind_at text (Some i) = drop (i + 1) text

-- the whole part of a number: what is before its first decimal mark
abbrev pub whole_of : DecimalMark → List ℕ → List ℕ
whole_of mark text = front_to text (position (λ b. b == decimal_byte mark) text)

-- the fraction of a number: what is after its first decimal mark
abbrev pub fraction_of : DecimalMark → List ℕ → List ℕ
fraction_of mark text = behind_at text (position (λ b. b == decimal_byte mark) text)

-- a whole part and the digits of a fraction, one of which may be empty
abbrev pub is_numeral : DecimalMark → List ℕ → List ℕ → Bool
is_numeral mark whole fraction =
    not (length whole + length fraction == 0) && (is_whole mark whole && list_all is_digit fraction)

-- their plain text: no group separators, a zero if there is no whole part, and a point only before a fraction
abbrev pub plain_whole : List ℕ → List ℕ
plain_whole [] = 48 ∷ []
plain_whole (b ∷ bs) = filter is_digit (b ∷ bs)

-- a point and the digits of a fraction; nothing if there is no fraction
abbrev pub plain_fraction : List ℕ → List ℕ
plain_fraction [] = []
plain_fraction (b ∷ bs) = 46 ∷ b ∷ bs

-- a byte begins an exponent
abbrev pub is_exponent_sign : ℕ → Bool
is_exponent_sign b = b == 101 || b == 69

-- the position of a word's exponent, if it has one
abbrev pub exponent_at : List ℕ → Option ℕ
exponent_at word = position is_exponent_sign word

-- what is before the exponent
abbrev pub mantissa_of : List ℕ → List ℕ
mantissa_of word = front_to word (exponent_at word)

-- one to three digits
abbrev pub is_power : List ℕ → Bool
is_power digits = not (length digits == 0) && (nat_le (length digits) 3 && list_all is_digit digits)

-- an exponent, if present, is one to three digits after an optional sign
abbrev pub is_exponent : List ℕ → Option ℕ → Bool
is_exponent word None = true
is_exponent word (Some i) = is_power (without_sign (drop (i + 1) word))

-- a word is a number with this mark
abbrev pub is_spelled : DecimalMark → List ℕ → Bool
is_spelled mark word =
    is_numeral mark (whole_of mark (without_sign (mantissa_of word))) (fraction_of mark (without_sign (mantissa_of word)))
    && is_exponent word (exponent_at word)

-- digits, this many of them after the point; a leading zero changes nothing
abbrev pub pointed_digits : List ℕ → ℕ → List ℕ
pointed_digits digits places =
    (48 ∷ take (length digits - places) digits) ++ plain_fraction (drop (length digits - places) digits)

-- this many zeros
abbrev pub zeros : ℕ → List ℕ
zeros count = replicate count 48

-- a number times 10^power: that many zeros appended to its digits
abbrev pub raised_text : ℕ → List ℕ → List ℕ → List ℕ
raised_text power whole fraction = pointed_digits ((filter is_digit whole ++ fraction) ++ zeros power) (length fraction)

-- a number over 10^power: that many zeros prepended to its digits, and that many more decimals
abbrev pub lowered_text : ℕ → List ℕ → List ℕ → List ℕ
lowered_text power whole fraction = pointed_digits ((zeros power ++ filter is_digit whole) ++ fraction) (length fraction + power)

-- a number times a power of ten, or over it if the sign is a minus
abbrev pub shifted_text : List ℕ → List ℕ → List ℕ → List ℕ → List ℕ
shifted_text [] digits whole fraction = raised_text (magnitude_of digits) whole fraction
shifted_text (b ∷ bs) digits whole fraction =
    if b == 45 then lowered_text (magnitude_of digits) whole fraction else raised_text (magnitude_of digits) whole fraction

-- the digits of a whole part and of a fraction, with the point shifted by the exponent
abbrev pub unsigned_text : List ℕ → Option ℕ → List ℕ → List ℕ → List ℕ
unsigned_text word None whole fraction = plain_whole whole ++ plain_fraction fraction
unsigned_text word (Some i) whole fraction =
    shifted_text (sign_of (drop (i + 1) word)) (without_sign (drop (i + 1) word)) whole fraction

-- the plain text of a number: its sign, no group separators, a point only before a fraction, and no exponent
abbrev pub plain_text : DecimalMark → List ℕ → List ℕ
plain_text mark word =
    sign_of (mantissa_of word)
    ++ unsigned_text word (exponent_at word) (whole_of mark (without_sign (mantissa_of word))) (fraction_of mark (without_sign (mantissa_of word)))

-- the plain text of the number that a word spells with this mark, if any
abbrev pub plain : DecimalMark → List ℕ → Option (List ℕ)
plain mark word = if is_spelled mark word then Some (plain_text mark word) else None

-- a character is a blank: an ordinary, a narrow or a no-break one
abbrev pub is_blank : ℕ → Bool
is_blank c = c == 32 || (c == 0xA0 || (c == 0x2009 || c == 0x202F))

-- a character as a byte: each blank is an ordinary one, and 255 represents each character that no number has
abbrev pub byte_for : ℕ → ℕ
byte_for c = if is_blank c then 32 else if nat_lt c 128 then c else 255

-- the bytes for a word's characters
abbrev pub number_bytes : List ℕ → List ℕ
number_bytes word = map byte_for (chars word)

-- the decimal number that a plain text spells, if any
abbrev pub decimal_of_plain : Option (List ℕ) → Option Decimal
decimal_of_plain None = None
decimal_of_plain (Some text) = decimal_of text

-- the decimal number that a word spells with this mark, if any
unfoldable pub number_in : DecimalMark → List ℕ → Option Decimal
number_in mark word = decimal_of_plain (plain mark (number_bytes word))

-- the same, rounded if requested
abbrev pub rounded_plain : Option ℕ → Option (List ℕ) → Option Decimal
rounded_plain None text = decimal_of_plain text
rounded_plain (Some places) None = None
rounded_plain (Some places) (Some text) = rounded_decimal_of places text

-- the decimal number that is read from a word: what it spells, rounded if requested
unfoldable pub kept_in : Reading → List ℕ → Option Decimal
kept_in reading word = rounded_plain reading.round (plain reading.mark (number_bytes word))

-- empty, a dash or a cross, as on the diagonal of tables
abbrev pub is_nothing : List ℕ → Bool
is_nothing [] = true
is_nothing (b ∷ []) = b == 45 || (b == 120 || b == 88)
is_nothing (b ∷ c ∷ bs) = false

-- the number of the cell in this row and column: in a square table, a cell on the diagonal may be empty
abbrev pub cell_in : Reading → ℕ → ℕ → List ℕ → Option Decimal
cell_in reading i c word =
    if (reading.is_square && (i == c)) && is_nothing word then Some (record { number = pos 0; places = 0 }) else kept_in reading word
