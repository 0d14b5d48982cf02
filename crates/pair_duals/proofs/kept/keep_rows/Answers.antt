use Rattle.std.proofs.Common.{◌≡◌, ◌+◌, ℕ, length, map, arith, ap, subst, ◌∙◌}
use Rattle.pair_duals.specs.Kept.{AreKept, kept_row}
use Rattle.pair_duals.proofs.KeptRows.{AreKept-more, kept_row-next_location}
use Rattle.pair_duals.proofs.kept.keep_rows.Goals as goal

pub loop-i-preserved : goal.loop-i-preserved
loop-i-preserved g c =
    let value = g.N.Number.value in
    let I = c.args.instance.now in
    let D = c.args.duals.now in
    let m = length D.facilities in
    let i = c.loop-i.i in
    let j = c.args.seat.now.0 in
    let l = c.args.seat.now.1 in
    let next : kept_row m i j l + 1 ≡ kept_row m (i + 1) j l = omega arith in
    subst (λ (n : ℕ). AreKept I D n (map value c.keep_row.new.table)) next
    (AreKept-more I D i j l (map value c.loop-i.table) (map value c.keep_row.new.table) (omega (arith, c.free-i-end.ensures.value)) c.requires.l_in c.loop-i.invariant c.keep_row.ensures)

pub returns : goal.returns
returns g c =
    let value = g.N.Number.value in
    let D = c.args.duals.now in
    let m = length D.facilities in
    let j = c.args.seat.now.0 in
    let l = c.args.seat.now.1 in
    let all : c.loop-i.i ≡ m = omega (arith, c.free-i-end.ensures.value) in
    subst (λ (n : ℕ). AreKept c.args.instance.now D n (map value c.loop-i.table)) (ap (λ n. kept_row m n j l) all ∙ kept_row-next_location m j l) c.loop-i.invariant
