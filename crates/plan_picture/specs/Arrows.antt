-- The arrows of the costliest pairs of departments.
use Rattle.std.specs.Prelude.{◌≡◌, ◌≤◌, ℕ, ◌+◌, ◌/◌, List, [], ◌∷◌, ◌++◌, codes, length, pos, slice_index, slice_index_or, unsigned_abs}
use Rattle.qap_cost.specs.Instance.{Problem}
use Rattle.plan_answer.specs.Pairs.{AreDearest}
use Rattle.plan_answer.specs.declared.pairs.Pair.{Pair}
use Rattle.plan_picture.specs.Flows.{width_of}
use Rattle.plan_picture.specs.Joining.{IsJoinedTo}
use Rattle.plan_picture.specs.Marks.{line_mark}
use Rattle.plan_picture.specs.declared.layout.BoxSize.{BoxSize}
use Rattle.plan_picture.specs.declared.layout.Centre.{Centre}

-- the centre of place k
abbrev pub centre_of : List Centre → ℕ → Centre
centre_of centres k = slice_index_or centres k (record { x = 0; y = 0 })

-- a point of the box that is centred at another one
pub record IsInBox (centre : Centre) (size : BoxSize) (point : Centre) : Type 0 where
  pub left : centre.x ≤ point.x + size.width / 2
  pub right : point.x ≤ centre.x + size.width / 2
  pub above : centre.y ≤ point.y + size.height / 2
  pub below : point.y ≤ centre.y + size.height / 2

-- an arrow from the box of the one department's place to the box of the other's, as wide as the pair costs: its width is
-- proportional to the cost, that of the costliest pair nine pixels, and at least half a pixel
pub record IsArrow (p : List ℕ) (centres : List Centre) (size : BoxSize) (most : ℕ) (pair : Pair) (text : List ℕ) : Type 0 where
  pub tail : Centre
  pub head : Centre
  pub from : IsInBox (centre_of centres (slice_index p pair.from)) size tail
  pub to : IsInBox (centre_of centres (slice_index p pair.to)) size head
  pub is : text ≡ line_mark tail head (width_of (unsigned_abs pair.cost) most)

-- no pair
abbrev pub no_pair : Pair
no_pair = record { from = 0; to = 0; cost = pos 0 }

-- the cost of the first of some pairs, or 0
abbrev pub first_cost : List Pair → ℕ
first_cost [] = 0
first_cost (x ∷ xs) = unsigned_abs x.cost

-- how many of the costliest pairs have arrows
abbrev pub shown_pairs : ℕ
shown_pairs = 8

-- what precedes the arrows
abbrev pub arrows_head : List ℕ
arrows_head =
    codes "<defs><marker id=\"tip\" viewBox=\"0 0 10 10\" refX=\"4.5\" refY=\"5\" markerWidth=\"1.9\" markerHeight=\"1.9\" orient=\"auto\"><path d=\"M 0 0 L 10 5 L 0 10 z\" fill=\"#c2571a\"/></marker></defs>\n<g fill=\"none\" stroke=\"#c2571a\" stroke-opacity=\"0.8\" marker-end=\"url(#tip)\">\n"

-- the arrows of the costliest pairs
pub record AreArrows (I : Problem) (p : List ℕ) (centres : List Centre) (size : BoxSize) (text : List ℕ) : Type 0 where
  pub pairs : List Pair
  pub arrows : List ℕ
  pub dearest : AreDearest I p shown_pairs pairs
  pub each : IsJoinedTo (λ k. IsArrow p centres size (first_cost pairs) (slice_index_or pairs k no_pair)) (length pairs) arrows
  pub is : text ≡ arrows_head ++ arrows ++ codes "</g>\n"
