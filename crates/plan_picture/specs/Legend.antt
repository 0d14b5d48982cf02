-- What the marks of a picture mean.
use Rattle.std.specs.Prelude.{ℕ, Bool, List, [], ◌∷◌, ◌++◌, codes, if◌then◌else◌}
use Rattle.std.specs.Fmt.{decimal}
use Rattle.std.specs.List.{concat}

-- the line of the arrows and that of the lines behind the boxes
abbrev pub flow_lines : List ℕ
flow_lines =
    codes "<tspan x=\"28\" dy=\"18\"><tspan fill=\"#c2571a\">&#9644;</tspan> the costliest pairs, wider where they cost more</tspan>\n"
    ++ codes "<tspan x=\"28\" dy=\"18\"><tspan fill=\"#8fb0d3\">&#9644;</tspan> all flows, wider where they are larger</tspan>\n"

-- the line of departments that are fixed
abbrev pub fixed_line : List ℕ
fixed_line = codes "<tspan x=\"28\" dy=\"18\"><tspan fill=\"#7a5b00\">&#9632;</tspan> fixed</tspan>\n"

-- the line of places that stay empty
abbrev pub empty_line : List ℕ
empty_line = codes "<tspan x=\"28\" dy=\"18\"><tspan fill=\"#777777\">&#9633;</tspan> stays empty</tspan>\n"

-- where the boxes are not at the places' coordinates
abbrev pub scale_line : List ℕ
scale_line = codes "<tspan x=\"28\" dy=\"18\">not to scale</tspan>\n"

-- what precedes the lines
abbrev pub legend_head : ℕ → List ℕ
legend_head y = codes "<text y=\"" ++ decimal y ++ codes "\" font-size=\"12\" fill=\"#555555\">\n"

-- below this height: the lines of the flows, and the others if they apply
abbrev pub legend_text : Bool → Bool → Bool → ℕ → List ℕ
legend_text is_fixed is_spare is_scaled y =
    concat
    (legend_head y
    ∷ flow_lines
    ∷ (if is_fixed then fixed_line else [])
    ∷ (if is_spare then empty_line else [])
    ∷ (if is_scaled then [] else scale_line)
    ∷ codes "</text>\n"
    ∷ [])
