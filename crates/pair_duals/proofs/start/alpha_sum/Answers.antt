use Rattle.std.proofs.Common.{◌≡◌, ◌≤◌, ◌+◌, ◌*◌, length, arith, ap, sym, subst, ◌∙◌}
use Rattle.std.proofs.lemmas.Int.{ints}
use Rattle.std.proofs.lemmas.Nat.{mul-le}
use Rattle.qap_cost.specs.Sum.{sum_to}
use Rattle.qap_cost.proofs.Sums.{AddsUp, AddsUp-more}
use Rattle.pair_duals.specs.PairDuals.{alpha_of}
use Rattle.pair_duals.specs.Reduced.{but}
use Rattle.pair_duals.proofs.Products.{roomy}
use Rattle.pair_duals.proofs.Starts.{AddsUp-over, but-at, duals-within}
use Rattle.pair_duals.proofs.start.alpha_sum.Goals as goal
use Rattle.pair_duals.proofs.start.alpha_sum.Goals.{then-j-i, else-j-i}

pub loop-j-init : goal.loop-j-init
loop-j-init g c = record { value = c.narrow-total.ensures; small = let e = c.narrow-total.ensures in omega (arith, ints, e) }

pub plus-total-requires : goal.plus-total-requires
plus-total-requires g c =
    let m = g.N.Number.limits in
    let d = c.free-j-end.ensures.duals in
    let all = duals-within m c.args.duals.now (c.loop-j.j + 1) g.met.N.Number.enough d (omega (arith, c.free-j-end.ensures.value)) in
    let so_far = c.loop-j.invariant.small in
    let one = c.alpha.ensures.range in
    omega (arith, ints, all, so_far, one, (roomy m g.met.N.Number.enough).start)

pub loop-j-preserved : goal.loop-j-preserved
loop-j-preserved g c =
    let value = g.N.Number.value in
    let m = g.N.Number.limits in
    let f = alpha_of c.args.duals.now c.args.i c.args.k in
    let j = c.loop-j.j in
    elim c.if-j-i.branch [
      | then-j-i w ↦
          subst (λ (t : g.row.N.Denot). AddsUp (value t) (but c.args.i f) (j + 1) m.dual) (sym w.total-is)
          (AddsUp-more (value c.loop-j.total) (value w.alpha.result) (value w.plus-total.result) (but c.args.i f) j m.dual c.loop-j.invariant (w.alpha.ensures.value ∙ sym (but-at c.args.i f j w.if-j-i.true)) w.alpha.ensures.range w.plus-total.ensures)
      | else-j-i w ↦
          subst (λ (t : g.row.N.Denot). AddsUp (value t) (but c.args.i f) (j + 1) m.dual) (sym w.total-is)
          (AddsUp-over (value c.loop-j.total) c.args.i f j m.dual c.loop-j.invariant w.if-j-i.false)
    ]

pub returns-clause-value : goal.returns-clause-value
returns-clause-value g c =
    let f = alpha_of c.args.duals.now c.args.i c.args.k in
    let all : c.loop-j.j ≡ length c.args.duals.now.facilities = omega (arith, c.free-j-end.ensures.value, c.free-j-end.ensures.duals.same_count) in
    c.loop-j.invariant.value ∙ ap (sum_to (but c.args.i f)) all

pub returns-clause-range : goal.returns-clause-range
returns-clause-range g c =
    let m = g.N.Number.limits in
    let d = c.free-j-end.ensures.duals in
    let few : c.loop-j.j * m.dual ≤ m.size * m.dual = mul-le _ _ _ _ (omega (arith, c.free-j-end.ensures.value, d.count, d.size)) (omega arith) in
    let so_far = c.loop-j.invariant.small in
    omega (arith, few, so_far)
