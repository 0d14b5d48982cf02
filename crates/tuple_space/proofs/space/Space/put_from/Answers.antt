use Rattle.std.proofs.Common.{◌≡◌, ◌∙◌, ◌+◌, ◌≤◌, ap, refl, subst, sym, List, arith}
use Rattle.tuple_space.specs.declared.entry.Entry.{Entry}
use Rattle.tuple_space.specs.Space.{SpaceValue, IsSpace, most, space_of}
use Rattle.tuple_space.specs.Held.{HasHeld}
use Rattle.tuple_space.specs.Places.{items_in}
use Rattle.tuple_space.specs.Writes.{put_count, put_each}
use Rattle.tuple_space.proofs.HeldLemmas.{held_put_each}
use Rattle.tuple_space.specs.Index.{AreIndexed, Class, is_put, is_to_be}
use Rattle.std.specs.Prelude.{◌||◌, ℕ}
use Rattle.tuple_space.proofs.IndexLemmas.{indexed_put_each, indexed_undone, indexed_up, of_err, of_ok}
use Rattle.tuple_space.specs.Ends.{AreWatched, Watches}
use Rattle.tuple_space.proofs.EndLemmas.{all_kept, all_left}
use Rattle.tuple_space.proofs.SpaceLemmas.{IsSpace-put_each}
use Rattle.tuple_space.proofs.WriteLemmas.{put_none}
use Rattle.tuple_space.proofs.space.Space.put_from.Goals as goal

pub invariant_of-self-2 : goal.invariant_of-self-2
invariant_of-self-2 c =
    let s = c.self.inside in
    let w : SpaceValue = space_of s.entries.items s.moment s.last in
    let counted = c.count_puts-count.ensures in
    let rows = items_in c.writes.inside.rows.items in
    let written : rows ≡ c.args.writes.now = c.writes.view_is in
    let room : s.last + put_count c.args.writes.now ≤ most = omega arith in
    let there = of_ok ((k : Class) (n : ℕ) → is_put k n c.add_writes.new.buckets.items ≡ (is_put k n s.buckets.items || is_to_be k n s.last c.args.writes.now)) c.add_writes.result c.add_writes.ensures.put (sym c.is_err-3.ensures.value ∙ c.if-is_err-3.false) in
    let noted = of_ok (Watches c.drop_gone.new.self.rows c.note_writes.new.ends.rows s.moment s.last (λ v. put_each v c.args.writes.now)) c.note_writes.result c.note_writes.ensures.watched (sym c.is_err-2.ensures.value ∙ c.if-is_err-2.false) in
    let left = all_left s.ends.rows c.drop_gone.new.self.rows s.moment s.entries.items (rw c.reserve.ensures.items at c.drop_gone.ensures) c.self.invariant.3 in
    let same = c.put_rows-self-inside.ensures.put ∙ ap (λ (es : List Entry). put_each (space_of es s.moment s.last) rows) c.reserve.ensures.items ∙ ap (put_each w) written in (
      subst IsSpace (sym same) (IsSpace-put_each w c.args.writes.now room c.self.invariant.0),
      subst (λ (v : SpaceValue). HasHeld s.held.items v.entries) (sym same) (held_put_each s.held.items w c.args.writes.now c.self.invariant.1),
      subst (λ (v : SpaceValue). AreIndexed c.add_writes.new.buckets.items v.entries) (sym same) (indexed_put_each s.buckets.items c.add_writes.new.buckets.items w c.args.writes.now c.add_writes.ensures.ordered
          (c.add_writes.ensures.once c.self.invariant.2.once) there c.self.invariant.2),
      subst (λ (v : SpaceValue). AreWatched c.note_writes.new.ends.rows s.moment v.entries) (sym same) (noted w refl refl left),
    )

pub returns-then-count-eq0-clause-ok : goal.returns-then-count-eq0-clause-ok
returns-then-count-eq0-clause-ok c =
    let none : put_count c.args.writes.now ≡ 0 = sym c.count_puts-count.ensures ∙ c.if-count-eq0.true in
    (omega (arith, none, ap (λ (v : SpaceValue). v.last) c.self.view_is), sym (put_none _ c.args.writes.now none))

pub add_writes-requires-clause-ordered : goal.add_writes-requires-clause-ordered
add_writes-requires-clause-ordered c =
    let s = c.self.inside in
    indexed_up s.last s.buckets.items s.entries.items c.self.invariant.0.numbered c.self.invariant.2

pub invariant_of-self-then-is_err-3 : goal.invariant_of-self-then-is_err-3
invariant_of-self-then-is_err-3 c =
    let s = c.self.inside in
    let mixed = of_err ((k : Class) (n : ℕ) → (is_put k n c.add_writes.new.buckets.items || is_to_be k n s.last c.args.writes.now) ≡ (is_put k n s.buckets.items || is_to_be k n s.last c.args.writes.now))
    c.add_writes.result c.add_writes.ensures.err (sym c.is_err-3.ensures.value ∙ c.if-is_err-3.true) in
    let left = all_left s.ends.rows c.drop_gone.new.self.rows s.moment s.entries.items (rw c.reserve.ensures.items at c.drop_gone.ensures) c.self.invariant.3 in
    rw c.reserve.ensures.items (
      c.self.invariant.0,
      c.self.invariant.1,
      indexed_undone s.buckets.items c.add_writes.new.buckets.items c.drop_writes.new.buckets.items s.last s.entries.items c.args.writes.now c.self.invariant.0.numbered c.drop_writes.ensures.ordered
          (c.drop_writes.ensures.once (c.add_writes.ensures.once c.self.invariant.2.once)) mixed c.drop_writes.ensures.dropped c.self.invariant.2,
      all_kept c.drop_gone.new.self.rows c.note_writes.new.ends.rows s.moment s.entries.items c.note_writes.ensures.kept left,
    )

pub invariant_of-self-then-is_err-2 : goal.invariant_of-self-then-is_err-2
invariant_of-self-then-is_err-2 c =
    let s = c.self.inside in
    let left = all_left s.ends.rows c.drop_gone.new.self.rows s.moment s.entries.items (rw c.reserve.ensures.items at c.drop_gone.ensures) c.self.invariant.3 in
    rw c.reserve.ensures.items (c.self.invariant.0, c.self.invariant.1, c.self.invariant.2, all_kept c.drop_gone.new.self.rows c.note_writes.new.ends.rows s.moment s.entries.items c.note_writes.ensures.kept left)
