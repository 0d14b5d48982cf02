-- The picture of an arrangement.
use Rattle.std.specs.Prelude.{◌≡◌, ℕ, Bool, nat_lt, List, [], ◌∷◌, length, codes}
use Rattle.std.specs.List.{concat}
use Rattle.std.specs.Str.Lossy.{utf8_lossy}
use Rattle.plan_file.specs.declared.tables.NamedProblem.{NamedProblem}
use Rattle.plan_answer.specs.Answer.{has_fixed}
use Rattle.plan_picture.specs.Arrows.{AreArrows}
use Rattle.plan_picture.specs.Drawing.{IsPlace, flow_marks, opening_text, title_style, verdict_style}
use Rattle.plan_picture.specs.Joining.{IsJoinedTo}
use Rattle.plan_picture.specs.Legend.{legend_text}
use Rattle.plan_picture.specs.Naming.{AreNames}
use Rattle.plan_picture.specs.declared.layout.BoxSize.{BoxSize}
use Rattle.plan_picture.specs.declared.layout.Centre.{Centre}

-- for some size of the picture and of its boxes, and some point for each place and for the caption: the caption, then for each two
-- departments with a flow the line between their places, then for each place its box with its names, then the arrows of the costliest
-- pairs, and the legend
pub record IsPicture (P : NamedProblem) (p : List ℕ) (title verdict : List ℕ) (text : List ℕ) : Type 0 where
  pub width : ℕ
  pub height : ℕ
  pub size : BoxSize
  pub centres : List Centre
  pub top : Centre
  pub bottom : ℕ
  pub is_scaled : Bool
  pub caption : List ℕ
  pub places : List ℕ
  pub arrows : List ℕ
  pub each : length centres ≡ length P.places.items
  pub captioned : AreNames top title title_style (utf8_lossy verdict) verdict_style caption
  pub placed : IsJoinedTo (IsPlace P p centres size) (length P.places.items) places
  pub pointed : AreArrows P.instance p centres size arrows
  pub is :
      text
      ≡ concat
      (opening_text width height
      ∷ caption
      ∷ flow_marks P.instance p centres
      ∷ places
      ∷ arrows
      ∷ legend_text (has_fixed P) (nat_lt (length P.departments.items) (length P.places.items)) is_scaled bottom
      ∷ codes "</svg>\n"
      ∷ [])
