-- A tuple that is written permanently under a transaction.
use Rattle.std.specs.Prelude.{◌≡◌, false, List, [], ◌∷◌, ◌++◌}
use Rattle.tuple_match.specs.FieldValue.{FieldValue}
use Rattle.tuple_space.specs.declared.lease.Lease.TheVariants.{Forever}
use Rattle.tuple_space.specs.declared.write.Write.{Write}

-- the write of a permanent tuple
abbrev pub forever : List FieldValue → Write
forever tuple = record { tuple = tuple; lease = Forever; taken = false }

-- one more write, of this tuple
abbrev pub WritesForever : List FieldValue → List Write → List Write → Type 0
WritesForever tuple old new = new ≡ old ++ forever tuple ∷ []
