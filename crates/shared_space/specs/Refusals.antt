-- The refusals that each call may meet, regardless of what other threads did.
use Rattle.std.specs.Prelude.{ℕ, Option, Some, None}
use Rattle.tuple_space.specs.declared.error.SpaceError.{SpaceError}
use Rattle.tuple_space.specs.declared.error.SpaceError.TheVariants.{Exhausted as numbers_used_up, NotThere, OutOfMemory as memory_used_up}
use Rattle.space_txn.specs.declared.error.TxnError.{TxnError}
use Rattle.space_txn.specs.declared.error.TxnError.TheVariants.{Expired, Foreign, Exhausted, OutOfMemory}
use Rattle.shared_space.specs.declared.error.CommitError.{CommitError}
use Rattle.shared_space.specs.declared.error.CommitError.TheVariants.{Limit, Txn}

-- the beginning of a transaction: 33, 50
abbrev pub IsBeginError : TxnError → Type 0
IsBeginError Exhausted = Unit {0}
IsBeginError OutOfMemory = Unit {0}
IsBeginError Expired = ⊥
IsBeginError Foreign = ⊥

-- a call that finds for a transaction: 31, 32, 50
abbrev pub IsFindError : TxnError → Type 0
IsFindError Expired = Unit {0}
IsFindError Foreign = Unit {0}
IsFindError OutOfMemory = Unit {0}
IsFindError Exhausted = ⊥

-- a commit: 37 if there is a limit; 31, 32, 33, 50
abbrev pub IsCommitError : Option ℕ → CommitError → Type 0
IsCommitError None Limit = ⊥
IsCommitError (Some limit) Limit = Unit {0}
IsCommitError limit (Txn error) = Unit {0}

-- a transaction's end without a commit: 31, 32
abbrev pub IsAbortError : TxnError → Type 0
IsAbortError Expired = Unit {0}
IsAbortError Foreign = Unit {0}
IsAbortError Exhausted = ⊥
IsAbortError OutOfMemory = ⊥

-- a write outside all transactions: 33, 50
abbrev pub IsOutError : SpaceError → Type 0
IsOutError numbers_used_up = Unit {0}
IsOutError memory_used_up = Unit {0}
IsOutError NotThere = ⊥
