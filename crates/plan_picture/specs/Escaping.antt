-- Names as text of an XML document (Extensible Markup Language 1.0, 2.2 and 2.4).
use Rattle.std.specs.Prelude.{ℕ, Bool, List, [], ◌∷◌, ◌++◌, codes, ◌==◌, ◌&&◌, ◌||◌, nat_lt, not, if◌then◌else◌}
use Rattle.std.specs.Char.{encode_utf8}
use Rattle.std.specs.Int.{is_in_range}
use Rattle.std.specs.Str.{chars}

-- a character that a document may have (production 2)
abbrev pub is_xml_char : ℕ → Bool
is_xml_char c = (c == 0x9) || (c == 0xA) || (c == 0xD) || is_in_range 0x20 0xD7FF c || is_in_range 0xE000 0xFFFD c || is_in_range 0x10000 0x10FFFF c

-- U+FFFD, the replacement character
abbrev pub replacement : List ℕ
replacement = encode_utf8 0xFFFD

-- a character that no document may have is replaced; a tab or a carriage return becomes a blank
abbrev pub plain_char : ℕ → List ℕ
plain_char c = if is_xml_char c then (if nat_lt c 0x20 && not (c == 0xA) then codes " " else encode_utf8 c) else replacement

-- a character with a special meaning is written as its entity
abbrev pub escaped_char : ℕ → List ℕ
escaped_char c =
    if c == 38 then codes "&amp;" else if c == 60 then codes "&lt;" else if c == 62 then codes "&gt;" else if c == 34 then codes "&quot;" else plain_char c

-- likewise for each of a list of characters, concatenated
abbrev pub escaped_chars : List ℕ → List ℕ
escaped_chars [] = []
escaped_chars (c ∷ cs) = escaped_char c ++ escaped_chars cs

-- a text with its characters escaped
abbrev pub escaped : List ℕ → List ℕ
escaped text = escaped_chars (chars text)
