-- Refusals of the space as refusals of a transaction.
use Rattle.tuple_space.specs.declared.error.SpaceError.{SpaceError}
use Rattle.tuple_space.specs.declared.error.SpaceError.TheVariants.{Exhausted as space_exhausted, OutOfMemory as space_full}
use Rattle.space_txn.specs.declared.error.TxnError.{TxnError}
use Rattle.space_txn.specs.declared.error.TxnError.TheVariants.{Exhausted, OutOfMemory}

-- the same refusal; a transaction never reports that an entry is not there
abbrev pub IsRefusalOf : SpaceError → TxnError → Type 0
IsRefusalOf space_exhausted Exhausted = Unit {0}
IsRefusalOf space_full OutOfMemory = Unit {0}
IsRefusalOf _ _ = ⊥
