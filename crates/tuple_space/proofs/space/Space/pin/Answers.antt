use Rattle.std.proofs.Common.{◌≡◌, ◌∙◌, ℕ, List, ap, cond, eqb, get_or, refl, subst, sym, true}
use Rattle.tuple_space.specs.Rows.{has_number}
use Rattle.tuple_space.specs.Held.{HasHeld}
use Rattle.tuple_space.specs.declared.entry.Entry.{Entry}
use Rattle.tuple_space.specs.declared.held.Held.{Held}
use Rattle.tuple_space.specs.Space.{SpaceValue, held_by}
use Rattle.tuple_space.proofs.RowLemmas.{changed_number}
use Rattle.tuple_space.proofs.EntryLemmas.{IsEntry-changed, IsEntry-held}
use Rattle.tuple_space.proofs.HeldLemmas.{held_again, held_pinned}
use Rattle.tuple_space.proofs.IndexLemmas.{changed_tuple, indexed_map}
use Rattle.tuple_space.proofs.EndLemmas.{watched_changed, watched_held, watched_map}
use Rattle.tuple_space.proofs.SpaceLemmas.{IsSpace-map}
use Rattle.tuple_space.proofs.space.Space.pin.Goals as goal

pub invariant_of-self-2 : goal.invariant_of-self-2
invariant_of-self-2 c =
    let s = c.self.inside in
    let change = held_by c.args.holder c.args.taken in
    let n = c.number-number.result in
    let there : has_number n s.entries.items ≡ true = ap (has_number n) (ap (λ (v : SpaceValue). v.entries) c.self.view_is) ∙ ap (λ (m : ℕ). has_number m c.args.self.now.entries) c.number-number.ensures ∙ c.requires in
    rw c.in_ok-hold-2.ensures.ok (
      IsSpace-map (λ (e : Entry). cond (eqb e.number n) (change e) e) (changed_number n change (λ e. refl)) (IsEntry-changed n change (IsEntry-held c.args.holder c.args.taken)) s.entries.items s.moment s.last c.self.invariant.0,
      held_pinned c.args.holder c.args.taken n c.reserve.new.self.items _ s.entries.items there c.add_held.ensures.rising c.add_held.ensures.among
          (subst (λ (l : List Held). HasHeld l s.entries.items) (sym c.reserve.ensures.items) c.self.invariant.1),
      indexed_map (λ (e : Entry). cond (eqb e.number n) (change e) e) (changed_number n change (λ e. refl)) (changed_tuple n change (λ e. refl)) s.buckets.items s.entries.items c.self.invariant.2,
      watched_map s.ends.rows s.moment (λ (e : Entry). cond (eqb e.number n) (change e) e) s.entries.items
          (λ k d lt. watched_changed s.ends.rows s.moment n change (get_or s.entries.items k d) (λ own. watched_held s.ends.rows s.moment c.args.holder c.args.taken (get_or s.entries.items k d))) c.self.invariant.3,
    )

pub invariant_of-self-then-is_entry_held_by : goal.invariant_of-self-then-is_entry_held_by
invariant_of-self-then-is_entry_held_by c =
    let s = c.self.inside in
    let change = held_by c.args.holder c.args.taken in
    let n = c.number-number.result in
    let there : has_number n s.entries.items ≡ true = ap (has_number n) (ap (λ (v : SpaceValue). v.entries) c.self.view_is) ∙ ap (λ (m : ℕ). has_number m c.args.self.now.entries) c.number-number.ensures ∙ c.requires in
    let held = sym c.is_entry_held_by.ensures ∙ c.if-is_entry_held_by.true in
    rw c.in_ok-hold.ensures.ok (
      IsSpace-map (λ (e : Entry). cond (eqb e.number n) (change e) e) (changed_number n change (λ e. refl)) (IsEntry-changed n change (IsEntry-held c.args.holder c.args.taken)) s.entries.items s.moment s.last c.self.invariant.0,
      held_again c.args.holder c.args.taken n s.held.items s.entries.items there held c.self.invariant.1,
      indexed_map (λ (e : Entry). cond (eqb e.number n) (change e) e) (changed_number n change (λ e. refl)) (changed_tuple n change (λ e. refl)) s.buckets.items s.entries.items c.self.invariant.2,
      watched_map s.ends.rows s.moment (λ (e : Entry). cond (eqb e.number n) (change e) e) s.entries.items
          (λ k d lt. watched_changed s.ends.rows s.moment n change (get_or s.entries.items k d) (λ own. watched_held s.ends.rows s.moment c.args.holder c.args.taken (get_or s.entries.items k d))) c.self.invariant.3,
    )

pub add_held-requires-clause-rising : goal.add_held-requires-clause-rising
add_held-requires-clause-rising c = λ holder. rw c.reserve.ensures.items ((c.self.invariant.1.of holder).rising)
