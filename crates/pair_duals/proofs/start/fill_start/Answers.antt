use Rattle.std.proofs.Common.{◌≡◌, ℕ, length, map, arith, subst}
use Rattle.pair_duals.specs.Filling.{FillsRows}
use Rattle.pair_duals.specs.Start.{own_entry}
use Rattle.pair_duals.proofs.Fillings.{FillsRows-none, FillsRows-more}
use Rattle.pair_duals.proofs.start.fill_start.Goals as goal

pub loop-r-init : goal.loop-r-init
loop-r-init g c = FillsRows-none _ _ _

pub loop-r-preserved : goal.loop-r-preserved
loop-r-preserved g c = FillsRows-more _ _ _ _ _ _ c.loop-r.invariant c.fill_start_row.ensures

pub returns : goal.returns
returns g c =
    let value = g.N.Number.value in
    let D = c.args.duals.now in
    let all : c.loop-r.r ≡ length D.facilities = omega (arith, c.free-r-end.ensures.value) in
    subst (λ (k : ℕ). FillsRows (length D.facilities) (own_entry c.args.instance.now D c.args.node.now) k (map value c.args.entries.now) (map value c.loop-r.entries)) all c.loop-r.invariant
