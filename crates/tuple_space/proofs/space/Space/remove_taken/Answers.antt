use Rattle.std.proofs.Common.{List, subst, sym}
use Rattle.std.specs.Prelude.{filter, not}
use Rattle.tuple_space.specs.Held.{HasHeld}
use Rattle.tuple_space.specs.declared.entry.Entry.{Entry}
use Rattle.tuple_space.specs.declared.held.Held.{Held}
use Rattle.tuple_space.specs.Entry.{is_taken_by}
use Rattle.tuple_space.proofs.HeldLemmas.{held_taken}
use Rattle.tuple_space.proofs.EndLemmas.{watched_filter}
use Rattle.tuple_space.proofs.SpaceLemmas.{IsSpace-filter}
use Rattle.tuple_space.proofs.space.Space.remove_taken.Goals as goal

pub invariant_of-self : goal.invariant_of-self
invariant_of-self c =
    let s = c.self.inside in
    let stays = λ (e : Entry). not (is_taken_by c.args.holder e) in
    let rows = rw c.drop_taken.ensures.taken at c.drop_rows_gone.ensures in
    rw c.drop_taken.ensures.taken (
      IsSpace-filter stays s.entries.items s.moment s.last s.moment c.self.invariant.0.early c.self.invariant.0,
      subst (λ (l : List Held). HasHeld l (filter stays s.entries.items)) (sym rows)
          (held_taken c.args.holder c.is_any_shared-shared.result s.held.items s.entries.items c.self.invariant.0.rising c.is_any_shared-shared.ensures c.self.invariant.1),
      rw c.drop_taken.ensures.taken at c.drop_taken.ensures.indexed,
      watched_filter s.ends.rows s.moment stays s.entries.items c.self.invariant.3,
    )
