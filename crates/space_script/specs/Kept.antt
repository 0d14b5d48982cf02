-- Transactions under their numbers.
use Rattle.std.specs.Prelude.{◌≡◌, ℕ, List, Some, slice_get, slice_set}
use Rattle.tuple_space.specs.Entries as numbers
use Rattle.space_txn.specs.Machine.{Answer, Call, Step}
use Rattle.space_txn.specs.Txn.{TxnValue}
use Rattle.space_txn.specs.World.{World}

-- transactions in order, and how many more fit without allocation
pub record KeptValue : Type 0 where
  pub items : List TxnValue
  pub room : ℕ

-- each value is stored under its number
abbrev pub AreNumbered : List (ℕ × TxnValue) → Type 0
AreNumbered pairs = numbers.AreNumbered (λ t. t.number) pairs

-- a call under the transaction at a position, where its new value is stored
pub record StepsAt (old : World) (kept : List TxnValue) (place : ℕ) (call : Call) (answer : Answer) (new : World) (kept' : List TxnValue) : Type 0 where
  pub t : TxnValue
  pub after : TxnValue
  pub there : slice_get kept place ≡ Some t
  pub step : Step old t call answer new after
  pub stands : kept' ≡ slice_set kept place after
