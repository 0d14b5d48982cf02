-- Listed arrangements of a plan's departments.
use Rattle.std.specs.Prelude.{◌≡◌, ℕ, List, length}
use Rattle.qap_cost.specs.Placement.{Placement}
use Rattle.plan_table.specs.Layout.{IsLayoutText}
use Rattle.plan_table.specs.declared.pin.Pin.{Pin}
use Rattle.plan_file.specs.Fixing.{AreFixed}

-- the text lists a department and its place on each line; each department is at its place, all are listed, and nothing else is placed
pub record IsLayout (text : List ℕ) (departments places : List (List ℕ)) (x : Placement) : Type 0 where
  pub pins : List Pin
  pub listed : IsLayoutText text pins
  pub placed : AreFixed pins departments places x
  pub all : length x.facilities ≡ length departments
