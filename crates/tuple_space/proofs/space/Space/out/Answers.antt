use Rattle.std.proofs.Common.{◌≡◌, ◌+◌, ◌∙◌, List, ap, arith, refl, subst, sym}
use Rattle.tuple_space.specs.Ends.{AreWatched, Ending}
use Rattle.tuple_space.specs.Held.{AreRising, is_among}
use Rattle.tuple_space.specs.Index.{AreIndexed, AreOnce, AreSame, IsAdded}
use Rattle.tuple_space.specs.Space.{space_of}
use Rattle.tuple_space.specs.declared.entry.Entry.{Entry}
use Rattle.tuple_space.specs.declared.index.Bucket.{Bucket}
use Rattle.tuple_space.proofs.HeldLemmas.{held_put}
use Rattle.tuple_space.proofs.IndexLemmas.{indexed_put, of_err, of_ok}
use Rattle.tuple_space.proofs.EndLemmas.{all_kept, all_left, kept_noted, put_noted}
use Rattle.tuple_space.proofs.SpaceLemmas.{IsSpace-put}
use Rattle.tuple_space.proofs.space.Space.out.Goals as goal

-- entries stay indexed where the same numbers stand in other buckets
indexed_same : (old new : List Bucket) (es : List Entry) → AreSame old new → AreOnce new → AreIndexed old es → AreIndexed new es
indexed_same old new es same once h = record {
  once = once;
  rising = λ k. subst AreRising (sym (same k)) (h.rising k);
  exact = λ k n. ap (is_among n) (same k) ∙ h.exact k n;
}

pub invariant_of-self-2 : goal.invariant_of-self-2
invariant_of-self-2 c =
    let s = c.self.inside in
    let w = space_of s.entries.items s.moment s.last in
    let there = of_ok (IsAdded c.args.tuple (s.last + 1) s.buckets.items c.add_entry.new.buckets.items) c.add_entry.result c.add_entry.ensures.put (sym c.is_err-3.ensures.value ∙ c.if-is_err-3.false) in
    let noted = rw c.granted-end.ensures at (of_ok _ c.note.result c.note.ensures.ok (sym c.is_err-2.ensures.value ∙ c.if-is_err-2.false)) in
    let left = all_left s.ends.rows c.drop_gone.new.self.rows s.moment s.entries.items (rw c.reserve.ensures.items at c.drop_gone.ensures) c.self.invariant.3 in
    rw (c.push.ensures.items, c.reserve.ensures.items, c.granted-end.ensures, c.new-holds.ensures) (
      IsSpace-put w c.args.tuple c.args.lease (omega arith) c.self.invariant.0,
      held_put s.held.items w c.args.tuple c.args.lease c.self.invariant.1,
      indexed_put s.buckets.items c.add_entry.new.buckets.items w c.args.tuple c.args.lease c.self.invariant.0.numbered there (c.add_entry.ensures.once c.self.invariant.2.once) c.self.invariant.2,
      put_noted c.drop_gone.new.self.rows c.note.new.self.rows w c.args.tuple c.args.lease s.last s.moment refl refl noted left,
    )

pub invariant_of-self-then-is_err-2 : goal.invariant_of-self-then-is_err-2
invariant_of-self-then-is_err-2 c =
    let s = c.self.inside in
    let left = all_left s.ends.rows c.drop_gone.new.self.rows s.moment s.entries.items (rw c.reserve.ensures.items at c.drop_gone.ensures) c.self.invariant.3 in
    let same = of_err (c.note.new.self.rows ≡ c.drop_gone.new.self.rows) c.note.result c.note.ensures.err (sym c.is_err-2.ensures.value ∙ c.if-is_err-2.true) in
    rw c.reserve.ensures.items (
      c.self.invariant.0,
      c.self.invariant.1,
      c.self.invariant.2,
      subst (λ (rows : List Ending). AreWatched rows s.moment s.entries.items) (sym same) left,
    )

pub invariant_of-self-then-is_err-3 : goal.invariant_of-self-then-is_err-3
invariant_of-self-then-is_err-3 c =
    let s = c.self.inside in
    let left = all_left s.ends.rows c.drop_gone.new.self.rows s.moment s.entries.items (rw c.reserve.ensures.items at c.drop_gone.ensures) c.self.invariant.3 in
    let noted = of_ok _ c.note.result c.note.ensures.ok (sym c.is_err-2.ensures.value ∙ c.if-is_err-2.false) in
    let same = of_err (AreSame s.buckets.items c.add_entry.new.buckets.items) c.add_entry.result c.add_entry.ensures.err (sym c.is_err-3.ensures.value ∙ c.if-is_err-3.true) in
    rw c.reserve.ensures.items (
      c.self.invariant.0,
      c.self.invariant.1,
      indexed_same s.buckets.items c.add_entry.new.buckets.items s.entries.items same (c.add_entry.ensures.once c.self.invariant.2.once) c.self.invariant.2,
      all_kept c.drop_gone.new.self.rows c.note.new.self.rows s.moment s.entries.items
          (λ e. kept_noted c.granted-end.result (s.last + 1) c.drop_gone.new.self.rows c.note.new.self.rows noted e) left,
    )
