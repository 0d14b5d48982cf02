use Rattle.std.proofs.Common.{◌≡◌, ◌∙◌, List, Some, eqb, false, subst, sym}
use Rattle.std.specs.Prelude.{find, not}
use Rattle.tuple_space.specs.Entry.{is_held}
use Rattle.tuple_space.specs.Held.{HasHeld}
use Rattle.tuple_space.specs.Rows.{without}
use Rattle.tuple_space.specs.declared.entry.Entry.{Entry}
use Rattle.tuple_space.specs.declared.held.Held.{Held}
use Rattle.tuple_space.proofs.HeldLemmas.{found_free, held_filter, held_without}
use Rattle.tuple_space.proofs.EndLemmas.{watched_filter}
use Rattle.tuple_space.proofs.RowLemmas.{find_nothing}
use Rattle.tuple_space.proofs.SpaceLemmas.{IsSpace-filter}
use Rattle.tuple_space.proofs.space.Space.remove.Goals as goal

pub invariant_of-self : goal.invariant_of-self
invariant_of-self c =
    let s = c.self.inside in
    let n = c.number-number.result in
    let same = c.take_number.ensures.rest ∙ find_nothing n s.entries.items (sym (sym c.in_err-entry.was ∙ c.take_number.ensures.value)) in
    rw same (c.self.invariant.0, c.self.invariant.1, rw same at c.take_number.ensures.indexed, c.self.invariant.3)

pub invariant_of-self-then-is_held : goal.invariant_of-self-then-is_held
invariant_of-self-then-is_held c =
    let s = c.self.inside in
    let n = c.number-number.result in
    let stays = λ (e : Entry). not (eqb e.number n) in
    rw c.take_number.ensures.rest (
      IsSpace-filter stays s.entries.items s.moment s.last s.moment c.self.invariant.0.early c.self.invariant.0,
      subst (λ (l : List Held). HasHeld l (without n s.entries.items)) (sym c.drop_rows_of.ensures) (held_without n s.held.items s.entries.items c.self.invariant.1),
      rw c.take_number.ensures.rest at c.take_number.ensures.indexed,
      watched_filter s.ends.rows s.moment stays s.entries.items c.self.invariant.3,
    )

pub invariant_of-self-else-is_held : goal.invariant_of-self-else-is_held
invariant_of-self-else-is_held c =
    let s = c.self.inside in
    let n = c.number-number.result in
    let stays = λ (e : Entry). not (eqb e.number n) in
    let found : Some c.in_ok-entry.entry ≡ find (λ (e : Entry). eqb e.number n) s.entries.items = sym c.in_ok-entry.was ∙ c.take_number.ensures.value in
    let free : is_held c.in_ok-entry.entry ≡ false = sym c.is_held.ensures ∙ c.if-is_held.false in
    rw c.take_number.ensures.rest (
      IsSpace-filter stays s.entries.items s.moment s.last s.moment c.self.invariant.0.early c.self.invariant.0,
      held_filter stays s.held.items s.entries.items (found_free n c.in_ok-entry.entry s.entries.items c.self.invariant.0.rising found free) c.self.invariant.1,
      rw c.take_number.ensures.rest at c.take_number.ensures.indexed,
      watched_filter s.ends.rows s.moment stays s.entries.items c.self.invariant.3,
    )
