use Rattle.std.proofs.Common.{arith, ap, subst, ◌∙◌}
use Rattle.std.proofs.lemmas.Int.{ints, to_z-of_z}
use Rattle.std.specs.Int.{w128}
use Rattle.pair_duals.specs.Range.{IsInReach}
use Rattle.pair_duals.specs.Reduced.{Form}
use Rattle.pair_duals.proofs.Reaches.{next_read}
use Rattle.pair_duals.proofs.reduced.Reduced.prunes.Goals as goal

pub overflow_add-result : goal.overflow_add-result
overflow_add-result g c =
    let m = g.N.Number.limits in
    let R = c.args.self.now in
    let r : IsInReach m R = subst (IsInReach m) c.self.view_is c.self.invariant in
    (next_read m R c.args.h c.args.g c.self.inside.value c.widen.result g.met.N.Number.enough r c.requires.row c.requires.column (ap (λ (F : Form). F.value) c.self.view_is) (c.widen.ensures ∙ c.entry.ensures)).0

pub returns : goal.returns
returns g c =
    let m = g.N.Number.limits in
    let R = c.args.self.now in
    let r : IsInReach m R = subst (IsInReach m) c.self.view_is c.self.invariant in
    let is = (next_read m R c.args.h c.args.g c.self.inside.value c.widen.result g.met.N.Number.enough r c.requires.row c.requires.column (ap (λ (F : Form). F.value) c.self.view_is) (c.widen.ensures ∙ c.entry.ensures)).1 in
    let t = to_z-of_z w128 c.args.threshold c.ranges.threshold in
    rw (is, t) (λ h. omega (arith, ints, h), λ h. grind (arith, ints))
