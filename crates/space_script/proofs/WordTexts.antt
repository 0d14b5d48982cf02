-- Words of the tuple space are ASCII.
use Rattle.std.proofs.Common.{ℕ, ◌<◌, List, [], ◌∷◌, inl, inr, arith}
use Rattle.std.specs.List.{All}
use Rattle.std.specs.Str.{IsAscii}
use Rattle.std.proofs.lemmas.List.Elements.{All-head, All-tail}
use Rattle.std.proofs.lemmas.Str.Ascii.{IsAscii-cons, IsAscii-nil}
use Rattle.tuple_match.specs.Word.{IsWordByte, IsWord}

word_byte_small : (byte : ℕ) → IsWordByte byte → byte < 128
word_byte_small byte (inl letter) = omega (arith, letter.1)
word_byte_small byte (inr (inl digit)) = omega (arith, digit.1)
word_byte_small byte (inr (inr underscore)) = omega (arith, underscore)

ascii_bytes : (bytes : List ℕ) → All IsWordByte bytes → IsAscii bytes
ascii_bytes [] each = IsAscii-nil
ascii_bytes (b ∷ bs) each = IsAscii-cons b bs (word_byte_small b (All-head IsWordByte b bs each)) (ascii_bytes bs (All-tail IsWordByte b bs each))

-- the bytes of a word are ASCII
pub ascii_word : (bytes : List ℕ) → IsWord bytes → IsAscii bytes
ascii_word [] word = absurd word
ascii_word (first ∷ rest) word = IsAscii-cons first rest (omega (arith, word.0.1)) (ascii_bytes rest word.2)
