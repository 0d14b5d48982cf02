-- The role of a byte in a table's text, given its separator.
use Rattle.std.specs.Prelude.{ℕ, ◌==◌, if◌then◌else◌}
use Rattle.plan_table.specs.declared.csv_text.Mark.{Mark}
use Rattle.plan_table.specs.declared.csv_text.Mark.TheVariants.{Quote, Divider, Feed, Return, Other}
use Rattle.plan_table.specs.declared.separator.Separator.{Separator}
use Rattle.plan_table.specs.declared.separator.Separator.TheVariants.{Comma, Semicolon, Tab}

-- the byte of a separator: a comma, a semicolon or a tab
abbrev pub byte_of : Separator → ℕ
byte_of Comma = 44
byte_of Semicolon = 59
byte_of Tab = 9

-- a byte is a quote, the separator, a line feed, a carriage return, or another byte
abbrev pub mark_of : Separator → ℕ → Mark
mark_of d b =
    if b == 34 then Quote else if b == byte_of d then Divider else if b == 10 then Feed else if b == 13 then Return else Other
