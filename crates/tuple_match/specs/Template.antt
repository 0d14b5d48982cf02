use Rattle.std.specs.Prelude.{◌≤◌, List, length, All}
use Rattle.tuple_match.specs.PatternValue.{PatternValue, IsPattern}

-- the limits of a template, which are those of a tuple: 1 to 8 patterns, each within its own limits
pub record IsTemplate (patterns : List PatternValue) : Type 0 where
  pub some : 1 ≤ length patterns
  pub few : length patterns ≤ 8
  pub each : All IsPattern patterns
