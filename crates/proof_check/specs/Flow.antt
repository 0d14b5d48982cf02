-- A text that is copied as it is read.
use Rattle.std.specs.Prelude.{ℕ, List, Option}
use Rattle.std.specs.Io.KnownBytes.{Appends, Consumes}

-- the bytes that a reader has left, and those that a writer holds, where they are known
pub record Flow : Type 0 where
  pub left : Option (List ℕ)
  pub copied : Option (List ℕ)

-- these bytes were read and copied
pub record Passes (old new : Flow) (bytes : List ℕ) : Type 0 where
  pub consumed : Consumes old.left new.left bytes
  pub appended : Appends old.copied new.copied bytes
