use Rattle.std.proofs.Common.{ℕ, ◌≡◌, ◌*◌, map, subst, arith}
use Rattle.qap_improve.specs.Table.{HasMoved}
use Rattle.qap_improve.proofs.Tables.{HasMoved-all, HasMoved-none}
use Rattle.qap_improve.proofs.table.update_rows.Goals as goal

pub loop-r-init : goal.loop-r-init
loop-r-init g c = HasMoved-none c.args.instance.now c.args.arrangement.now.locations.items c.args.exchanged.0 c.args.exchanged.1 (map g.N.Number.value c.args.entries.now) c.requires.before

pub returns : goal.returns
returns g c =
    let I = c.args.instance.now in
    let q = c.args.arrangement.now.locations.items in
    let u = c.args.exchanged.0 in
    let v = c.args.exchanged.1 in
    let table = map g.N.Number.value c.loop-r.entries in
    let all : c.loop-r.r ≡ I.size = omega (arith, c.loop-r-test.false, c.loop-r.auto.r-end, c.size-r-end.ensures.value) in
    HasMoved-all I q u v table (subst (λ (r : ℕ). HasMoved I q u v table (r * I.size)) all c.loop-r.invariant)
