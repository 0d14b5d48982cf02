-- How an arrangement is drawn.
use Rattle.std.specs.Prelude.{◌≡◌, ℕ, ◌==◌, nat_lt, Bool, List, [], ◌∷◌, ◌++◌, map, Option, Some, None, codes, is_some, slice_index, slice_index_or, string_bytes, unwrap_or, if◌then◌else◌}
use Rattle.std.specs.Fmt.{decimal}
use Rattle.std.specs.List.{list_any}
use Rattle.qap_cost.specs.Instance.{Problem}
use Rattle.plan_file.specs.declared.tables.NamedProblem.{NamedProblem}
use Rattle.plan_picture.specs.Arrows.{centre_of}
use Rattle.plan_picture.specs.Flows.{flow_between, largest_flow, width_of}
use Rattle.plan_picture.specs.Joining.{joined_to}
use Rattle.plan_picture.specs.Marks.{box_mark, line_mark}
use Rattle.plan_picture.specs.Naming.{AreNames}
use Rattle.plan_picture.specs.declared.layout.BoxSize.{BoxSize}
use Rattle.plan_picture.specs.declared.layout.Centre.{Centre}

-- the document's beginning
abbrev pub opening_text : ℕ → ℕ → List ℕ
opening_text width height =
    codes "<svg xmlns=\"http://www.w3.org/2000/svg\" width=\"" ++ decimal width ++ codes "\" height=\"" ++ decimal height
    ++ codes "\" viewBox=\"0 0 " ++ decimal width ++ codes " " ++ decimal height ++ codes "\" font-family=\"monospace\">\n<rect width=\"" ++ decimal width
    ++ codes "\" height=\"" ++ decimal height ++ codes "\" fill=\"white\"/>\n"

-- how the title is drawn
abbrev pub title_style : List ℕ
title_style = codes "font-size=\"15\" font-weight=\"bold\""

-- how that which is proved is drawn
abbrev pub verdict_style : List ℕ
verdict_style = codes "font-size=\"13\""

-- for two departments with a flow between them, a line from the place of the one to the place of the other
abbrev pub flow_mark : Problem → List ℕ → List Centre → ℕ → ℕ → List ℕ
flow_mark I p centres i j =
    if nat_lt 0 (flow_between I i j)
    then line_mark (centre_of centres (slice_index p i)) (centre_of centres (slice_index p j)) (width_of (flow_between I i j) (largest_flow I))
    else []

-- the lines of all pairs of departments
abbrev pub flow_marks : Problem → List ℕ → List Centre → List ℕ
flow_marks I p centres =
    codes "<g fill=\"none\" stroke=\"#8fb0d3\" stroke-opacity=\"0.8\">\n" ++ joined_to (λ i. joined_to (flow_mark I p centres i) i) I.size ++ codes "</g>\n"

-- the department at place k, where the departments are at these places in order
abbrev pub department_at : List (List ℕ) → List ℕ → ℕ → Option (List ℕ)
department_at [] locations k = None
department_at (d ∷ ds) [] k = None
department_at (d ∷ ds) (l ∷ ls) k = if l == k then Some d else department_at ds ls k

-- a place whose department is fixed has a thick edge, an empty one a dashed edge
abbrev pub style_of : Bool → Bool → List ℕ
style_of is_fixed is_taken =
    if is_fixed then codes "fill=\"#fff3d6\" stroke=\"#7a5b00\" stroke-width=\"3\""
    else if is_taken then codes "fill=\"#eef3f9\" stroke=\"#333333\""
    else codes "fill=\"#ffffff\" stroke=\"#999999\" stroke-dasharray=\"5 4\""

-- how the name of a department is drawn
abbrev pub department_style : List ℕ
department_style = codes "text-anchor=\"middle\" font-size=\"13\" font-weight=\"bold\""

-- how the name of a place is drawn
abbrev pub place_style : List ℕ
place_style = codes "text-anchor=\"middle\" font-size=\"12\" fill=\"#666666\""

-- the box of place k, with the names of its department, if it has one, and its own
pub record IsPlace (P : NamedProblem) (p : List ℕ) (centres : List Centre) (size : BoxSize) (k : ℕ) (text : List ℕ) : Type 0 where
  pub names : List ℕ
  pub named :
      AreNames
      (centre_of centres k)
      (unwrap_or (department_at (map string_bytes P.departments.items) p k) [])
      department_style
      (slice_index_or (map string_bytes P.places.items) k [])
      place_style
      names
  pub is :
      text
      ≡ box_mark (centre_of centres k) size (style_of (list_any (λ l. k == l) P.fixed.places) (is_some (department_at (map string_bytes P.departments.items) p k)))
      ++ names
