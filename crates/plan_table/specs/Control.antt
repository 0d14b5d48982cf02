-- Control characters, which no name may have and no message shows unescaped.
use Rattle.std.specs.Prelude.{◌≡◌, ℕ, List, [], ◌∷◌, ◌++◌, false, codes, find, None, if◌then◌else◌}
use Rattle.std.specs.Char.{encode_utf8, is_control}
use Rattle.std.specs.Fmt.{digits}
use Rattle.std.specs.Str.{chars}

-- no character of the text is U+0000 to U+001F or U+007F to U+009F
abbrev pub HasNoControl : List ℕ → Type 0
HasNoControl text = find is_control (chars text) ≡ None

-- a control character is escaped as `\u{..}`, with its number in hexadecimal digits
abbrev pub shown_char : ℕ → List ℕ
shown_char c = if is_control c then codes "\\u{" ++ digits 16 false c ++ codes "}" else encode_utf8 c

-- likewise for a sequence of characters
abbrev pub shown_chars : List ℕ → List ℕ
shown_chars [] = []
shown_chars (c ∷ cs) = shown_char c ++ shown_chars cs
