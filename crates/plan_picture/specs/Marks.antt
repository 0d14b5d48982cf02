-- The elements of a picture (Scalable Vector Graphics 1.1, 9 and 10), with their coordinates in pixels.
use Rattle.std.specs.Prelude.{ℕ, ◌+◌, ◌-◌, ◌*◌, ◌/◌, ◌%◌, List, ◌++◌, codes, min}
use Rattle.std.specs.Fmt.{decimal}
use Rattle.plan_picture.specs.Escaping.{escaped}
use Rattle.plan_picture.specs.declared.layout.BoxSize.{BoxSize}
use Rattle.plan_picture.specs.declared.layout.Centre.{Centre}

-- halfway from a to b, shifted by a quarter of the difference of c and d
abbrev pub bent : ℕ → ℕ → ℕ → ℕ → ℕ
bent a b c d = a / 2 + b / 2 + (c - d) / 4 - (d - c) / 4

-- two numbers separated by a blank
abbrev pub point_text : ℕ → ℕ → List ℕ
point_text x y = decimal x ++ codes " " ++ decimal y

-- a slightly curved line from one point to another, this many tenths of a pixel wide
abbrev pub line_mark : Centre → Centre → ℕ → List ℕ
line_mark from to tenths =
    codes "<path d=\"M " ++ point_text from.x from.y ++ codes " Q " ++ point_text (bent from.x to.x from.y to.y) (bent from.y to.y to.x from.x)
    ++ codes " " ++ point_text to.x to.y ++ codes "\" stroke-width=\"" ++ decimal (tenths / 10) ++ codes "." ++ decimal (tenths % 10) ++ codes "\"/>\n"

-- a box centred at a point
abbrev pub box_mark : Centre → BoxSize → List ℕ → List ℕ
box_mark centre size style =
    codes "<rect x=\"" ++ decimal (centre.x - size.width / 2) ++ codes "\" y=\"" ++ decimal (centre.y - size.height / 2)
    ++ codes "\" width=\"" ++ decimal size.width ++ codes "\" height=\"" ++ decimal size.height ++ codes "\" rx=\"5\" " ++ style ++ codes "/>\n"

-- the baseline of line i of n that are centred at a height, 16 pixels apart; from the thousandth on, they are in one place
abbrev pub line_y : ℕ → ℕ → ℕ → ℕ
line_y y n i = y + (12 + 16 * min i 1000) - 8 * min n 1000

-- what precedes a line of text at a point
abbrev pub name_head : ℕ → ℕ → List ℕ → List ℕ
name_head x y style = codes "<text x=\"" ++ decimal x ++ codes "\" y=\"" ++ decimal y ++ codes "\" " ++ style ++ codes ">"

-- a line of text at a point
abbrev pub name_mark : ℕ → ℕ → List ℕ → List ℕ → List ℕ
name_mark x y style line = name_head x y style ++ escaped line ++ codes "</text>\n"
