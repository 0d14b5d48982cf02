-- Refusals as programs report them.
use Rattle.std.specs.Prelude.{ℕ, List, [], ◌++◌, Option, Some, None, codes}
use Rattle.std.specs.Fmt.{decimal}

-- a refusal's number, its name, and the place, line or count that it carries
pub record RefusalText : Type 0 where
  pub number : ℕ
  pub name : List ℕ
  pub at : Option ℕ

-- a refusal that carries no further number
abbrev pub refused : ℕ → List ℕ → RefusalText
refused number name = record { number = number; name = name; at = None }

-- one that carries a place, a line or a count
abbrev pub refused_at : ℕ → List ℕ → ℕ → RefusalText
refused_at number name k = record { number = number; name = name; at = Some k }

-- the end of a refusal's line: ` at` and the number that it carries, if any
abbrev pub at_text : Option ℕ → List ℕ
at_text None = []
at_text (Some k) = codes " at " ++ decimal k

-- the line that reports a refusal
abbrev pub refusal_line : RefusalText → List ℕ
refusal_line r = codes "refused " ++ decimal r.number ++ codes " " ++ r.name ++ at_text r.at ++ codes "\n"

-- out of memory, which every program and crate refuses with the same number and name
abbrev pub memory_refusal : RefusalText
memory_refusal = refused 50 (codes "OutOfMemory")

-- likewise for a failed device
abbrev pub device_refusal : RefusalText
device_refusal = refused 51 (codes "Device")
