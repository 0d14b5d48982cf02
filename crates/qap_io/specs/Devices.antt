-- Readers and writers for tests.
use Rattle.std.specs.Prelude.{ℕ}

-- a reader or a writer, and its number of calls up to the one that fails, or 0 once that has failed
pub record FailingDevice (T : Type 0) : Type 0 where
  pub inner : T
  pub calls_left : ℕ
