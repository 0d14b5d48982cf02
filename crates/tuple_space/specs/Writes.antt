-- Tuples to be written together.
use Rattle.std.specs.Prelude.{ℕ, ◌+◌, ◌<◌, ◌≤◌, zero, suc, true, not, List, [], ◌∷◌, count_by, if◌then◌else◌}
use Rattle.tuple_space.specs.Space.{SpaceValue, most, put}
use Rattle.tuple_space.specs.declared.write.Write.{Write}
use Rattle.tuple_space.specs.declared.error.SpaceError.{SpaceError}
use Rattle.tuple_space.specs.declared.error.SpaceError.TheVariants.{Exhausted, NotThere, OutOfMemory}

-- the write at a position taken again
abbrev pub taken_at : ℕ → List Write → List Write
taken_at place [] = []
taken_at zero (x ∷ xs) = record x { taken = true } ∷ xs
taken_at (suc place) (x ∷ xs) = x ∷ taken_at place xs

-- written in order, except for those that were taken again
abbrev pub put_each : SpaceValue → List Write → SpaceValue
put_each w [] = w
put_each w (x ∷ xs) = put_each (if x.taken then w else put w x.tuple x.lease) xs

-- how many are written
abbrev pub put_count : List Write → ℕ
put_count writes = count_by (λ x. not x.taken) writes

-- why writes are refused: too few numbers are left, or there are enough and no memory, which only actual writes need
abbrev pub IsPutRefusal : SpaceValue → List Write → SpaceError → Type 0
IsPutRefusal w writes Exhausted = most < w.last + put_count writes
IsPutRefusal w writes OutOfMemory = (w.last + put_count writes ≤ most) × (0 < put_count writes)
IsPutRefusal w writes NotThere = ⊥
