use Rattle.std.proofs.Common.{ℕ, ◌≡◌, map, subst, arith}
use Rattle.qap_improve.specs.Table.{HasSettled}
use Rattle.qap_improve.proofs.Tables.{HasSettled-all, HasSettled-more}
use Rattle.qap_improve.proofs.table.settle_all.Goals as goal

pub loop-k-preserved : goal.loop-k-preserved
loop-k-preserved g c =
    HasSettled-more c.args.instance.now c.args.arrangement.now.locations.items c.args.exchanged.0 c.args.exchanged.1 c.loop-k.k _ _ _ c.loop-k.invariant c.settle.ensures c.settle-in-loop-k.ensures

pub returns : goal.returns
returns g c =
    let I = c.args.instance.now in
    let q = c.args.arrangement.now.locations.items in
    let u = c.args.exchanged.0 in
    let v = c.args.exchanged.1 in
    let table = map g.N.Number.value c.loop-k.entries in
    let all : c.loop-k.k ≡ I.size = omega (arith, c.loop-k-test.false, c.loop-k.auto.k-end, c.size-k-end.ensures.value) in
    HasSettled-all I q u v table (subst (λ (k : ℕ). HasSettled I q u v k table) all c.loop-k.invariant)
