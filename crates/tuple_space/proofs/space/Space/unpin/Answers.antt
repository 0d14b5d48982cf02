use Rattle.std.proofs.Common.{List, refl, subst, sym}
use Rattle.std.specs.Prelude.{filter}
use Rattle.tuple_space.specs.Entry.{unheld}
use Rattle.tuple_space.specs.Held.{HasHeld}
use Rattle.tuple_space.specs.Space.{released, stays_without}
use Rattle.tuple_space.specs.declared.held.Held.{Held}
use Rattle.tuple_space.proofs.EntryLemmas.{IsEntry-unheld}
use Rattle.tuple_space.proofs.HeldLemmas.{held_released}
use Rattle.tuple_space.proofs.EndLemmas.{all_unheld}
use Rattle.tuple_space.proofs.SpaceLemmas.{IsSpace-filter, IsSpace-map}
use Rattle.tuple_space.proofs.space.Space.unpin.Goals as goal

pub invariant_of-self : goal.invariant_of-self
invariant_of-self c =
    let s = c.self.inside in
    let stays = stays_without c.args.holder s.moment in
    rw c.release_all.ensures.released (
      IsSpace-map (unheld c.args.holder) (λ e. refl) (IsEntry-unheld c.args.holder) (filter stays s.entries.items) s.moment s.last
          (IsSpace-filter stays s.entries.items s.moment s.last s.moment c.self.invariant.0.early c.self.invariant.0),
      subst (λ (l : List Held). HasHeld l (released c.args.holder s.moment s.entries.items)) (sym c.drop_rows_by.ensures) (held_released c.args.holder s.moment s.held.items s.entries.items c.self.invariant.1),
      rw c.release_all.ensures.released at c.release_all.ensures.indexed,
      all_unheld s.ends.rows s.moment c.args.holder s.entries.items c.self.invariant.3,
    )
