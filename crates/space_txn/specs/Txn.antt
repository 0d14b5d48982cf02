-- The content of a transaction's value.
use Rattle.std.specs.Prelude.{ℕ, ◌==◌, ◌&&◌, not, Bool, List, Option, find, slice_get}
use Rattle.std.specs.Option.{option_map}
use Rattle.tuple_match.specs.FieldValue.{FieldValue}
use Rattle.tuple_match.specs.PatternValue.{PatternValue}
use Rattle.tuple_match.specs.Matching.{does_match}
use Rattle.tuple_space.specs.declared.write.Write.{Write}
use Rattle.space_txn.specs.declared.mark.Mark.{Mark}
use Rattle.space_txn.specs.declared.txn.Found.{Found}
use Rattle.space_txn.specs.declared.txn.Found.TheVariants.{Entry, Own}

-- its number, its marks, and what it wrote
pub record TxnValue : Type 0 where
  pub number : ℕ
  pub marks : List Mark
  pub writes : List Write

-- the value of a transaction with this number, these marks and these writes
abbrev pub txn_of : ℕ → List Mark → List Write → TxnValue
txn_of number marks writes = record { number = number; marks = marks; writes = writes }

-- the tuple that was found
abbrev pub found_tuple : TxnValue → Found → Option (List FieldValue)
found_tuple t (Entry number) = option_map (λ m. m.tuple) (find (λ m. m.entry == number) t.marks)
found_tuple t (Own place) = option_map (λ x. x.tuple) (slice_get t.writes place)

-- a write that matches a template and was not taken again
abbrev pub is_open_write : List PatternValue → Write → Bool
is_open_write template x = not x.taken && does_match template x.tuple
