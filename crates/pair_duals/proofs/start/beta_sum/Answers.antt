use Rattle.std.proofs.Common.{◌≡◌, ◌≤◌, ◌+◌, ◌*◌, length, arith, ap, sym, subst, ◌∙◌}
use Rattle.std.proofs.lemmas.Int.{ints}
use Rattle.std.proofs.lemmas.Nat.{mul-le}
use Rattle.qap_cost.specs.Sum.{sum_to}
use Rattle.qap_cost.proofs.Sums.{AddsUp, AddsUp-more}
use Rattle.pair_duals.specs.PairDuals.{beta_of}
use Rattle.pair_duals.specs.Reduced.{but}
use Rattle.pair_duals.proofs.Products.{roomy}
use Rattle.pair_duals.proofs.Starts.{AddsUp-over, but-at, duals-within}
use Rattle.pair_duals.proofs.start.beta_sum.Goals as goal
use Rattle.pair_duals.proofs.start.beta_sum.Goals.{then-l-k, else-l-k}

pub loop-l-init : goal.loop-l-init
loop-l-init g c = record { value = c.narrow-total.ensures; small = let e = c.narrow-total.ensures in omega (arith, ints, e) }

pub plus-total-requires : goal.plus-total-requires
plus-total-requires g c =
    let m = g.N.Number.limits in
    let d = c.free-l-end.ensures.duals in
    let all = duals-within m c.args.duals.now (c.loop-l.l + 1) g.met.N.Number.enough d (omega (arith, c.free-l-end.ensures.value)) in
    let so_far = c.loop-l.invariant.small in
    let one = c.beta.ensures.range in
    omega (arith, ints, all, so_far, one, (roomy m g.met.N.Number.enough).start)

pub loop-l-preserved : goal.loop-l-preserved
loop-l-preserved g c =
    let value = g.N.Number.value in
    let m = g.N.Number.limits in
    let f = beta_of c.args.duals.now c.args.i c.args.k in
    let j = c.loop-l.l in
    elim c.if-l-k.branch [
      | then-l-k w ↦
          subst (λ (t : g.row.N.Denot). AddsUp (value t) (but c.args.k f) (j + 1) m.dual) (sym w.total-is)
          (AddsUp-more (value c.loop-l.total) (value w.beta.result) (value w.plus-total.result) (but c.args.k f) j m.dual c.loop-l.invariant (w.beta.ensures.value ∙ sym (but-at c.args.k f j w.if-l-k.true)) w.beta.ensures.range w.plus-total.ensures)
      | else-l-k w ↦
          subst (λ (t : g.row.N.Denot). AddsUp (value t) (but c.args.k f) (j + 1) m.dual) (sym w.total-is)
          (AddsUp-over (value c.loop-l.total) c.args.k f j m.dual c.loop-l.invariant w.if-l-k.false)
    ]

pub returns-clause-value : goal.returns-clause-value
returns-clause-value g c =
    let f = beta_of c.args.duals.now c.args.i c.args.k in
    let all : c.loop-l.l ≡ length c.args.duals.now.locations = omega (arith, c.free-l-end.ensures.value, c.free-l-end.ensures.duals.same_count) in
    c.loop-l.invariant.value ∙ ap (sum_to (but c.args.k f)) all

pub returns-clause-range : goal.returns-clause-range
returns-clause-range g c =
    let m = g.N.Number.limits in
    let d = c.free-l-end.ensures.duals in
    let few : c.loop-l.l * m.dual ≤ m.size * m.dual = mul-le _ _ _ _ (omega (arith, c.free-l-end.ensures.value, d.count, d.size)) (omega arith) in
    let so_far = c.loop-l.invariant.small in
    omega (arith, few, so_far)
