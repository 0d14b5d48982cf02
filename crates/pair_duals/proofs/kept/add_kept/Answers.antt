use Rattle.std.proofs.Common.{◌≡◌, ◌-◌, ℕ, map, arith, subst}
use Rattle.pair_duals.specs.Filling.{FillsRows}
use Rattle.pair_duals.specs.Reduced.{child_entry, count_of}
use Rattle.pair_duals.proofs.Fillings.{FillsRows-none, FillsRows-more}
use Rattle.pair_duals.proofs.kept.add_kept.Goals as goal

pub loop-r-init : goal.loop-r-init
loop-r-init g c = FillsRows-none _ _ _

pub loop-r-preserved : goal.loop-r-preserved
loop-r-preserved g c = FillsRows-more _ _ _ _ _ _ c.loop-r.invariant c.add_kept_row.ensures

pub returns : goal.returns
returns g c =
    let value = g.N.Number.value in
    let R = c.args.parent.now in
    let all : c.loop-r.r ≡ count_of R - 1 = omega (arith, c.free-r-end.ensures.value) in
    subst (λ (k : ℕ). FillsRows (count_of R - 1) (child_entry c.args.kept.now.problem c.args.kept.now.duals R.rows R.columns R.entries c.args.seat.now.0 c.args.seat.now.1) k (map value c.args.entries.now) (map value c.loop-r.entries)) all c.loop-r.invariant
