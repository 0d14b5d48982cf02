use Rattle.std.proofs.Common.{◌≡◌, ◌≤◌, ◌*◌, ◌+◌, ℕ, length, get_or, arith, ap, ap₂, sym, subst, ◌∙◌}
use Rattle.std.specs.Prelude.{ℤ, pos, ◌+ℤ◌, ◌*ℤ◌, unsigned_abs}
use Rattle.std.proofs.lemmas.Int.{ints}
use Rattle.qap_cost.specs.Instance.{entry}
use Rattle.qap_cost.proofs.Objectives.{reads_entry}
use Rattle.pair_duals.specs.CostOfPair.{cost_of_pair}
use Rattle.pair_duals.proofs.Products.{roomy}
use Rattle.pair_duals.proofs.Starts.{linear_so_far, linear_so_far-more, linear_so_far-within}
use Rattle.pair_duals.proofs.start.scaled_linear.Goals as goal

pub loop-t-init : goal.loop-t-init
loop-t-init g c =
    let I = c.args.instance.now in
    let own = entry I.size I.a c.args.i c.args.i *ℤ entry I.size I.b c.args.k c.args.k in
    let none : own +ℤ pos 0 ≡ own = omega (arith, ints) in
    c.scaled_product-total.ensures.value
    ∙ ap₂ (λ (a b : ℤ). pos c.args.scale *ℤ (a *ℤ b)) (reads_entry c.a.result c.a.ensures.range ∙ c.a.ensures.value) (reads_entry c.b.result c.b.ensures.range ∙ c.b.ensures.value)
    ∙ ap (λ (z : ℤ). pos c.args.scale *ℤ z) (sym none)

pub loop-t-preserved : goal.loop-t-preserved
loop-t-preserved g c =
    let I = c.args.instance.now in
    let x = c.args.node.now in
    let t = c.loop-t.t in
    let f : c.from.result ≡ get_or x.facilities t 0 = c.from.ensures ∙ ap (λ l. get_or l t 0) c.facilities-facilities.ensures.value in
    let p : c.from-in-loop-t.result ≡ get_or x.places t 0 = c.from-in-loop-t.ensures ∙ ap (λ l. get_or l t 0) c.places-places.ensures.value in
    c.plus-total.ensures
    ∙ ap₂ ◌+ℤ◌ c.loop-t.invariant (c.scaled_pair-pair.ensures.value ∙ ap₂ (λ (a b : ℕ). pos c.args.scale *ℤ cost_of_pair I c.args.i c.args.k a b) f p)
    ∙ sym (linear_so_far-more I x c.args.scale c.args.i c.args.k t)

pub plus-total-requires : goal.plus-total-requires
plus-total-requires g c =
    let m = g.N.Number.limits in
    let I = c.args.instance.now in
    let x = c.args.node.now in
    let t = c.loop-t.t in
    let f : c.from.result ≡ get_or x.facilities t 0 = c.from.ensures ∙ ap (λ l. get_or l t 0) c.facilities-facilities.ensures.value in
    let p : c.from-in-loop-t.result ≡ get_or x.places t 0 = c.from-in-loop-t.ensures ∙ ap (λ l. get_or l t 0) c.places-places.ensures.value in
    let is = ap₂ ◌+ℤ◌ c.loop-t.invariant (c.scaled_pair-pair.ensures.value ∙ ap₂ (λ (a b : ℕ). pos c.args.scale *ℤ cost_of_pair I c.args.i c.args.k a b) f p)
    ∙ sym (linear_so_far-more I x c.args.scale c.args.i c.args.k t) in
    let bound = linear_so_far-within m I x c.args.scale c.args.i c.args.k (t + 1) c.requires.in_scale c.facilities-facilities.ensures.placement c.requires.size c.requires.small (c.requires.free c.facilities-facilities.ensures.placement) c.requires.k_in (omega (arith, c.loop-t-test.true, ap length c.facilities-facilities.ensures.value)) in
    subst (λ (z : ℤ). unsigned_abs z ≤ m.sum) (sym is) (omega (arith, bound, g.met.N.Number.enough.start, (roomy m g.met.N.Number.enough).start))

pub returns-clause-value : goal.returns-clause-value
returns-clause-value g c =
    let all : c.loop-t.t ≡ length c.args.node.now.facilities = omega (arith, ap length c.facilities-facilities.ensures.value) in
    c.loop-t.invariant ∙ ap (λ (n : ℕ). pos c.args.scale *ℤ linear_so_far c.args.instance.now c.args.node.now c.args.i c.args.k n) all

pub returns-clause-range : goal.returns-clause-range
returns-clause-range g c =
    let m = g.N.Number.limits in
    subst (λ (z : ℤ). unsigned_abs z ≤ 2 * (m.size * m.cost)) (sym c.loop-t.invariant)
    (linear_so_far-within m c.args.instance.now c.args.node.now c.args.scale c.args.i c.args.k c.loop-t.t c.requires.in_scale c.facilities-facilities.ensures.placement c.requires.size c.requires.small (c.requires.free c.facilities-facilities.ensures.placement) c.requires.k_in (omega (arith, ap length c.facilities-facilities.ensures.value)))
