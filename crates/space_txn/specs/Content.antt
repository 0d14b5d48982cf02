-- The permanent content of a world, with which the law of a search is concerned.
use Rattle.std.specs.Prelude.{◌≡◌, ℕ, ◌+◌, ◌++◌, ◌==◌, ◌&&◌, ◌||◌, not, Bool, List, filter, map}
use Rattle.std.specs.List.{list_any, sum_by}
use Rattle.tuple_match.specs.FieldValue.{FieldValue}
use Rattle.tuple_space.specs.Lease.{granted, is_permanent}
use Rattle.tuple_space.specs.Rows.{permanent_tuples}
use Rattle.tuple_space.specs.declared.write.Write.{Write}
use Rattle.space_txn.specs.Machine.{Call, commit, Answer, done}
use Rattle.space_txn.specs.Txn.{TxnValue}
use Rattle.space_txn.specs.World.{World}
use Rattle.space_txn.specs.declared.mark.Mark.{Mark}

-- two lists are equal as multisets: every weight has the same sum over both
abbrev pub SameItems : {X : Type 0} → List X → List X → Type 0
SameItems {X} xs ys = (f : X → ℕ) → sum_by f xs ≡ sum_by f ys

-- the content of a world: its permanent tuples, including held and taken ones
abbrev pub content_of : World → List (List FieldValue)
content_of w = permanent_tuples w.space.entries

-- what a transaction took of it, according to its marks: what was permanent when it was taken, and what has since been renewed
-- permanently. No transaction can know which marks these are.
abbrev pub is_gone : (Mark → Bool) → Mark → Bool
is_gone renewed m = m.taken && (m.permanent || renewed m)

-- the tuples of the marks by which a transaction took something of the content
abbrev pub gone_of : (Mark → Bool) → List Mark → List (List FieldValue)
gone_of renewed marks = map (λ m. m.tuple) (filter (is_gone renewed) marks)

-- The entry of a mark exists in the world, and is permanent now. If it was not when it was marked, it has been renewed permanently since.
abbrev pub is_made_permanent : World → Mark → Bool
is_made_permanent w m = list_any (λ e. (e.number == m.entry) && is_permanent e.end) w.space.entries

-- what it read of it and did not take
abbrev pub is_kept : Mark → Bool
is_kept m = not m.taken && m.permanent

-- the tuples of the content that it read and did not take
abbrev pub kept_of : List Mark → List (List FieldValue)
kept_of marks = map (λ m. m.tuple) (filter is_kept marks)

-- what it wrote permanently and did not take again
abbrev pub is_added : Write → Bool
is_added x = not x.taken && is_permanent (granted 0 x.lease)

-- the tuples that it wrote permanently and did not take again
abbrev pub added_of : List Write → List (List FieldValue)
added_of writes = map (λ x. x.tuple) (filter is_added writes)

-- The effect of a transaction's commit on the content: what it took is removed, if that is permanent now, what it wrote permanently
-- is added, and the rest, including what was kept, stays.
pub record ChangesContent (old new : World) (t : TxnValue) : Type 0 where
  pub rest : List (List FieldValue)
  pub before : SameItems (content_of old) (gone_of (is_made_permanent old) t.marks ++ (kept_of t.marks ++ rest))
  pub after : SameItems (content_of new) (added_of t.writes ++ (kept_of t.marks ++ rest))
  pub counted : new.commits ≡ old.commits + 1

-- each answer to a call other than that a commit is done
abbrev pub LeavesContent : Call → Answer → Type 0
LeavesContent commit done = ⊥
LeavesContent _ _ = Unit {0}

-- the content is unchanged, and so is the number of commits
pub record KeepsContent (old new : World) : Type 0 where
  pub same : SameItems (content_of new) (content_of old)
  pub counted : new.commits ≡ old.commits
