-- The target of an output.
use Rattle.std.specs.Prelude.{◌≡◌, ℕ, ◌⊎◌, Bool, true, List, Option, Some, None}
use Rattle.output_file.specs.declared.output.FileId.{FileId}

-- the bytes of the target's full name, whether it is or will be a regular file, and which file was there before
pub record Place : Type 0 where
  pub name : List ℕ
  pub regular : Bool
  pub earlier : Option FileId

-- both names referred to the same file
abbrev pub IsSameFile : Option FileId → Option FileId → Type 0
IsSameFile None q = ⊥
IsSameFile (Some p) None = ⊥
IsSameFile (Some p) (Some q) = p ≡ q

-- both are regular files, and were the same file or have the same full name
abbrev pub IsSamePlace : Place → Place → Type 0
IsSamePlace p q = (p.regular ≡ true) × (q.regular ≡ true) × (IsSameFile p.earlier q.earlier ⊎ (p.name ≡ q.name))
