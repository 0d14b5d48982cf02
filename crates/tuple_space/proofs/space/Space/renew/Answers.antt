use Rattle.std.proofs.Common.{◌≡◌, cond, eqb, get_or, refl, sym}
use Rattle.std.proofs.lemmas.Bool.{cond_both}
use Rattle.tuple_space.specs.Entry.{is_held_by}
use Rattle.tuple_space.specs.declared.entry.Entry.{Entry}
use Rattle.tuple_space.specs.Rows.{with_end}
use Rattle.tuple_space.proofs.RowLemmas.{changed_number}
use Rattle.tuple_space.proofs.EntryLemmas.{IsEntry-changed, IsEntry-end}
use Rattle.tuple_space.proofs.HeldLemmas.{held_map}
use Rattle.tuple_space.proofs.IndexLemmas.{changed_tuple, indexed_map}
use Rattle.tuple_space.proofs.EndLemmas.{live_of, watched_changed, watched_map, watched_renewed}
use Rattle.tuple_space.proofs.SpaceLemmas.{IsSpace-map}
use Rattle.tuple_space.proofs.space.Space.renew.Goals as goal

pub invariant_of-self : goal.invariant_of-self
invariant_of-self c =
    let s = c.self.inside in
    let change = with_end c.granted-end.result in
    let n = c.number.result in
    let live = live_of s.moment n s.entries.items c.self.invariant.0.rising (sym c.if-change_end.ensures.is_live) in
    rw c.if-change_end.ensures.changed (
      IsSpace-map (λ (e : Entry). cond (eqb e.number n) (change e) e) (changed_number n change (λ e. refl)) (IsEntry-changed n change (IsEntry-end c.granted-end.result)) s.entries.items s.moment s.last c.self.invariant.0,
      held_map (λ (e : Entry). cond (eqb e.number n) (change e) e) (changed_number n change (λ e. refl))
          (λ holder e. cond_both (eqb e.number n) (change e) e (λ (x : Entry). is_held_by holder x ≡ is_held_by holder e) (λ t. refl) (λ t. refl)) s.held.items s.entries.items c.self.invariant.1,
      indexed_map (λ (e : Entry). cond (eqb e.number n) (change e) e) (changed_number n change (λ e. refl)) (changed_tuple n change (λ e. refl)) s.buckets.items s.entries.items c.self.invariant.2,
      watched_map s.ends.rows s.moment (λ (e : Entry). cond (eqb e.number n) (change e) e) s.entries.items
          (λ k d lt. watched_changed s.ends.rows s.moment n change (get_or s.entries.items k d) (λ own. watched_renewed s.ends.rows s.moment c.granted-end.result (get_or s.entries.items k d) (live k d lt own))) c.self.invariant.3,
    )
