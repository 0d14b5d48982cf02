use Rattle.std.proofs.Common.{◌∙◌, sym, eqb, true}
use Rattle.std.specs.List.{list_any}
use Rattle.tuple_space.specs.declared.hold.Hold.{Hold}
use Rattle.tuple_space.specs.Holds.{holds_without}
use Rattle.tuple_space.specs.Lease.{is_live}
use Rattle.tuple_space.proofs.HoldLemmas.{any_without, last_part}
use Rattle.tuple_space.proofs.holding.stays_without.Goals as goal

pub returns-else-is_live : goal.returns-else-is_live
returns-else-is_live c =
    let e = c.args.entry.now in
    let holder = c.args.holder in
    let held = list_any (λ (h : Hold). eqb h.by holder) e.holds in
    c.is_held_besides.ensures
    ∙ last_part held (is_live c.args.moment e.end) (list_any (λ (h : Hold). true) (holds_without holder e.holds)) _
    (sym c.is_held_by.ensures ∙ c.if-not-is_held_by.false) (sym c.is_live.ensures ∙ c.if-is_live.false) (any_without holder e.holds)
