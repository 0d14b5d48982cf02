-- How a call that takes or reads changes the transaction's own value.
use Rattle.std.specs.Prelude.{◌≡◌, ℕ, ◌==◌, Bool, true, false, List, Some, IfSome, find, if◌then◌else◌}
use Rattle.tuple_match.specs.FieldValue.{FieldValue}
use Rattle.tuple_match.specs.PatternValue.{PatternValue, Matches}
use Rattle.tuple_space.specs.Writes.{taken_at}
use Rattle.space_txn.specs.Machine.{Answer, found, nothing, refused, IsOpenWriteAt}
use Rattle.space_txn.specs.Marks.{with_mark}
use Rattle.space_txn.specs.Txn.{TxnValue, txn_of, found_tuple}
use Rattle.space_txn.specs.declared.mark.Mark.{Mark}
use Rattle.space_txn.specs.declared.txn.Found.{Found}
use Rattle.space_txn.specs.declared.txn.Found.TheVariants.{Entry as Stored, Own}

-- what was found is in the transaction's value, and matches the template
pub record Shows (template : List PatternValue) (t : TxnValue) (what : Found) : Type 0 where
  pub tuple : List FieldValue
  pub here : found_tuple t what ≡ Some tuple
  pub matches : Matches template tuple

-- The mark that a transaction has on an entry that it found: the entry's tuple matches the template, and more is known about it
-- if the entry was permanent when it was marked.
pub record IsMarkFound (Known : List FieldValue → Type 0) (template : List PatternValue) (number : ℕ) (m : Mark) : Type 0 where
  pub entry : m.entry ≡ number
  pub matches : Matches template m.tuple
  pub known : m.permanent ≡ true → Known m.tuple

-- an entry that was taken is not found again: an older mark on it is a read
abbrev pub IsUntaken : ℕ → List Mark → Type 0
IsUntaken number marks = IfSome (find (λ m. m.entry == number) marks) (λ m. m.taken ≡ false)

-- From t, a call that takes or reads leads to t' with this answer: an entry is found with its mark, which
-- replaces an older mark on that entry; a write of the transaction itself is taken again, or read; otherwise the
-- value is unchanged.
abbrev pub Finds : (List FieldValue → Type 0) → Bool → List PatternValue → TxnValue → Answer → TxnValue → Type 0
Finds Known taking template t (found (Stored number)) t' =
    (m : Mark) × IsMarkFound Known template number m × (m.taken ≡ taking) × IsUntaken number t.marks
    × (t' ≡ txn_of t.number (with_mark m t.marks) t.writes) × (find (λ x. x.entry == number) t'.marks ≡ Some m)
Finds Known taking template t (found (Own place)) t' =
    IsOpenWriteAt template t.writes place × (t' ≡ (if taking then txn_of t.number t.marks (taken_at place t.writes) else t))
Finds Known taking template t nothing t' = t' ≡ t
Finds Known taking template t (refused error) t' = t' ≡ t
Finds _ _ _ _ _ _ = ⊥
