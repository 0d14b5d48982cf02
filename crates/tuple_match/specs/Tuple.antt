use Rattle.std.specs.Prelude.{◌≤◌, List, length, All}
use Rattle.tuple_match.specs.FieldValue.{FieldValue, IsField}

-- the limits of a tuple, this project's own: 1 to 8 fields, each within its own limits
pub record IsTuple (fields : List FieldValue) : Type 0 where
  pub some : 1 ≤ length fields
  pub few : length fields ≤ 8
  pub each : All IsField fields
