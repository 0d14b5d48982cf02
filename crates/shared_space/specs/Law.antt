-- The law of a space: which permanent tuples it may hold, and which commits may change them.
use Rattle.std.specs.Prelude.{ℕ, ◌+◌, Bool, List, ◌++◌, Contains}
use Rattle.tuple_match.specs.FieldValue.{FieldValue}
use Rattle.space_txn.specs.Content.{SameItems, added_of, gone_of, kept_of}
use Rattle.space_txn.specs.Txn.{TxnValue}
use Rattle.space_txn.specs.declared.mark.Mark.{Mark}

-- the permanent tuples of a space, as a multiset
abbrev pub Content : Type 0
Content = List (List FieldValue)

-- a law is independent of the order of the tuples
abbrev pub IsUnordered : (Content → ℕ → Type 0) → Type 0
IsUnordered lawful = (xs ys : Content) (commits : ℕ) → SameItems xs ys → lawful xs commits → lawful ys commits

-- An allowed commit preserves the law: from a lawful content, which contains what is removed and what was read, it yields one
-- without what is removed and with what is added, under one more commit.
abbrev pub IsKept : (Content → ℕ → Type 0) → (Content → Content → Content → Type 0) → Type 0
IsKept lawful allowed =
    (gone kept added rest : Content) (commits : ℕ) → allowed gone kept added → lawful (gone ++ (kept ++ rest)) commits → lawful (added ++ (kept ++ rest)) (commits + 1)

-- a law that always holds and allows everything: every commit, every lease, and calls outside all transactions that change the space
pub record IsFree (lawful : Content → ℕ → Type 0) (allowed : Content → Content → Content → Type 0) (begins : ℕ → Type 0) (changes : Type 0) : Type 0 where
  pub holds : (xs : Content) (commits : ℕ) → lawful xs commits
  pub allows : (gone kept added : Content) → allowed gone kept added
  pub leases : (lease : ℕ) → begins lease
  pub may_change : changes

-- a lawful content holds the tuple
abbrev pub InLawful : (Content → ℕ → Type 0) → List FieldValue → Type 0
InLawful lawful tuple = (xs : Content) × (commits : ℕ) × lawful xs commits × Contains xs tuple

-- what a transaction took, read and wrote may be committed, whichever of the tuples that it took have been renewed since
abbrev pub MayCommit : (Content → Content → Content → Type 0) → TxnValue → Type 0
MayCommit allowed t = (renewed : Mark → Bool) → allowed (gone_of renewed t.marks) (kept_of t.marks) (added_of t.writes)
