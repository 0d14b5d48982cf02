-- How a plan is drawn.
use Rattle.std.specs.Global.{Global}
use Rattle.std.specs.Prelude.{◌⊎◌, List, ℕ, Option, None, Some, String, codes, string_bytes}
use Rattle.toml.specs.Data.{Members}
use Rattle.plan_file.specs.Keys.{HasNone, HasSome, HasText}
use Rattle.plan_file.specs.declared.source.Drawing.{Drawing}
use Rattle.plan_file.specs.declared.source.YAxis.{YAxis}
use Rattle.plan_file.specs.declared.source.YAxis.TheVariants.{Up, Down}

-- the title, if given
abbrev pub SaysTitle : Members → Option (String Global) → Type 0
SaysTitle ms None = HasNone ms (codes "title")
SaysTitle ms (Some title) = HasText ms (codes "title") (string_bytes title)

-- the direction of the places' y axis: up by default
abbrev pub SaysY : Members → YAxis → Type 0
SaysY ms Up = HasNone ms (codes "y") ⊎ (HasSome ms (codes "places") × HasText ms (codes "y") (codes "up"))
SaysY ms Down = HasSome ms (codes "places") × HasText ms (codes "y") (codes "down")

-- how the plan is drawn
pub record SaysDrawing (ms : Members) (drawing : Drawing) : Type 0 where
  pub title : SaysTitle ms drawing.title
  pub y : SaysY ms drawing.y
