use Rattle.std.proofs.Common.{◌<◌, length, get_or, arith, below_more, refl, ◌∙◌, ap₂}
use Rattle.std.specs.Prelude.{pos, ◌+ℤ◌}
use Rattle.std.proofs.lemmas.Int.{ints}
use Rattle.qap_cost.specs.Instance.{entry}
use Rattle.qap_cost.proofs.Objectives.{reads_entry}
use Rattle.pair_duals.specs.PairDuals.{in_layers}
use Rattle.pair_duals.proofs.DualRows.{dual_read}
use Rattle.pair_duals.proofs.PairLines.{part-within, residual-from_parts, scaled_entry-read}
use Rattle.pair_duals.proofs.Products.{roomy}
use Rattle.pair_duals.proofs.fitting.fits_pair.Goals as goal

pub plus-requires-in-loop-l : goal.plus-requires-in-loop-l
plus-requires-in-loop-l g c =
    let D = c.args.duals.now in
    let m = length D.facilities in
    let i = c.args.seat.now.0 in
    let k = c.args.seat.now.1 in
    let j = c.args.seat.now.2 in
    let inside : c.loop-l.l < m = omega (arith, c.free-l-end.ensures.value) in
    let a = dual_read g.N.Number.value g.N.Number.limits.dual m (in_layers m D.alpha i j) c.alpha_row-alpha.result.now c.loop-l.l c.index-alpha-l.result c.alpha_row-alpha.ensures.row c.index-alpha-l.is inside in
    let b = dual_read g.N.Number.value g.N.Number.limits.dual m (in_layers m D.beta k j) c.beta_row-beta.result.now c.loop-l.l c.index-beta-l.result c.beta_row-beta.ensures.row c.index-beta-l.is inside in
    omega (arith, ints, a.1, b.1, (roomy g.N.Number.limits g.met.N.Number.enough).dual)

pub left_of-left-requires-clause-other : goal.left_of-left-requires-clause-other
left_of-left-requires-clause-other g c =
    let D = c.args.duals.now in
    let m = length D.facilities in
    let i = c.args.seat.now.0 in
    let k = c.args.seat.now.1 in
    let j = c.args.seat.now.2 in
    let inside : c.loop-l.l < m = omega (arith, c.free-l-end.ensures.value) in
    let a = dual_read g.N.Number.value g.N.Number.limits.dual m (in_layers m D.alpha i j) c.alpha_row-alpha.result.now c.loop-l.l c.index-alpha-l.result c.alpha_row-alpha.ensures.row c.index-alpha-l.is inside in
    let b = dual_read g.N.Number.value g.N.Number.limits.dual m (in_layers m D.beta k j) c.beta_row-beta.result.now c.loop-l.l c.index-beta-l.result c.beta_row-beta.ensures.row c.index-beta-l.is inside in
    omega (arith, ints, a.1, b.1, c.plus-in-loop-l.ensures)

pub left_of-left-requires-clause-there : goal.left_of-left-requires-clause-there
left_of-left-requires-clause-there g c =
    let I = c.args.instance.now in
    let D = c.args.duals.now in
    let m = length D.facilities in
    let i = c.args.seat.now.0 in
    let k = c.args.seat.now.1 in
    let j = c.args.seat.now.2 in
    let l = c.loop-l.l in
    let f = c.facility-facility.result in
    let h = c.facility-other.result in
    let from = get_or D.locations k 0 in
    let to = get_or D.locations l 0 in
    let duals = c.free-l-end.ensures.duals in
    let within : l < m = omega (arith, c.free-l-end.ensures.value) in
    let near : l < length D.locations = omega (arith, within, duals.same_count) in
    let hf : f < I.size = omega (arith, c.requires.size, c.facility-facility.ensures.within) in
    let hh : h < I.size = omega (arith, c.requires.size, c.facility-other.ensures.within) in
    let hfrom : from < I.size = omega (arith, c.requires.size, duals.locations k c.requires.k_in) in
    let hto : to < I.size = omega (arith, c.requires.size, duals.locations l near) in
    let a_there = scaled_entry-read D.scale c.scale.result c.scaled_entry-a_there.result c.a.result (entry I.size I.a f h) c.scaled_entry-a_there.ensures c.scale.ensures.value c.scale.ensures.duals.scale c.a.ensures.value c.a.ensures.range in
    let a_back = scaled_entry-read D.scale c.scale-2.result c.scaled_entry-a_back.result c.a-2.result (entry I.size I.a h f) c.scaled_entry-a_back.ensures c.scale-2.ensures.value c.scale-2.ensures.duals.scale c.a-2.ensures.value c.a-2.ensures.range in
    let there = c.requires.there in
    let back = c.requires.back in
    let distance_there = reads_entry (get_or c.args.there.now l (pos 0)) (there.range.each l (omega (arith, near, there.count))) ∙ there.entries l near in
    let distance_back = reads_entry (get_or c.args.back.now l (pos 0)) (back.range.each l (omega (arith, near, back.count))) ∙ back.entries l near in
    part-within g.N.Number.limits I D.scale f h from to _ _ c.requires.in_scale hf hh hfrom hto a_there distance_there

pub left_of-left-requires-clause-back : goal.left_of-left-requires-clause-back
left_of-left-requires-clause-back g c =
    let I = c.args.instance.now in
    let D = c.args.duals.now in
    let m = length D.facilities in
    let i = c.args.seat.now.0 in
    let k = c.args.seat.now.1 in
    let j = c.args.seat.now.2 in
    let l = c.loop-l.l in
    let f = c.facility-facility.result in
    let h = c.facility-other.result in
    let from = get_or D.locations k 0 in
    let to = get_or D.locations l 0 in
    let duals = c.free-l-end.ensures.duals in
    let within : l < m = omega (arith, c.free-l-end.ensures.value) in
    let near : l < length D.locations = omega (arith, within, duals.same_count) in
    let hf : f < I.size = omega (arith, c.requires.size, c.facility-facility.ensures.within) in
    let hh : h < I.size = omega (arith, c.requires.size, c.facility-other.ensures.within) in
    let hfrom : from < I.size = omega (arith, c.requires.size, duals.locations k c.requires.k_in) in
    let hto : to < I.size = omega (arith, c.requires.size, duals.locations l near) in
    let a_there = scaled_entry-read D.scale c.scale.result c.scaled_entry-a_there.result c.a.result (entry I.size I.a f h) c.scaled_entry-a_there.ensures c.scale.ensures.value c.scale.ensures.duals.scale c.a.ensures.value c.a.ensures.range in
    let a_back = scaled_entry-read D.scale c.scale-2.result c.scaled_entry-a_back.result c.a-2.result (entry I.size I.a h f) c.scaled_entry-a_back.ensures c.scale-2.ensures.value c.scale-2.ensures.duals.scale c.a-2.ensures.value c.a-2.ensures.range in
    let there = c.requires.there in
    let back = c.requires.back in
    let distance_there = reads_entry (get_or c.args.there.now l (pos 0)) (there.range.each l (omega (arith, near, there.count))) ∙ there.entries l near in
    let distance_back = reads_entry (get_or c.args.back.now l (pos 0)) (back.range.each l (omega (arith, near, back.count))) ∙ back.entries l near in
    part-within g.N.Number.limits I D.scale h f to from _ _ c.requires.in_scale hh hf hto hfrom a_back distance_back

pub returns-then-not-is_met : goal.returns-then-not-is_met
returns-then-not-is_met g c =
    let I = c.args.instance.now in
    let D = c.args.duals.now in
    let m = length D.facilities in
    let i = c.args.seat.now.0 in
    let k = c.args.seat.now.1 in
    let j = c.args.seat.now.2 in
    let l = c.loop-l.l in
    let f = c.facility-facility.result in
    let h = c.facility-other.result in
    let from = get_or D.locations k 0 in
    let to = get_or D.locations l 0 in
    let duals = c.free-l-end.ensures.duals in
    let within : l < m = omega (arith, c.free-l-end.ensures.value) in
    let near : l < length D.locations = omega (arith, within, duals.same_count) in
    let hf : f < I.size = omega (arith, c.requires.size, c.facility-facility.ensures.within) in
    let hh : h < I.size = omega (arith, c.requires.size, c.facility-other.ensures.within) in
    let hfrom : from < I.size = omega (arith, c.requires.size, duals.locations k c.requires.k_in) in
    let hto : to < I.size = omega (arith, c.requires.size, duals.locations l near) in
    let a_there = scaled_entry-read D.scale c.scale.result c.scaled_entry-a_there.result c.a.result (entry I.size I.a f h) c.scaled_entry-a_there.ensures c.scale.ensures.value c.scale.ensures.duals.scale c.a.ensures.value c.a.ensures.range in
    let a_back = scaled_entry-read D.scale c.scale-2.result c.scaled_entry-a_back.result c.a-2.result (entry I.size I.a h f) c.scaled_entry-a_back.ensures c.scale-2.ensures.value c.scale-2.ensures.duals.scale c.a-2.ensures.value c.a-2.ensures.range in
    let there = c.requires.there in
    let back = c.requires.back in
    let distance_there = reads_entry (get_or c.args.there.now l (pos 0)) (there.range.each l (omega (arith, near, there.count))) ∙ there.entries l near in
    let distance_back = reads_entry (get_or c.args.back.now l (pos 0)) (back.range.each l (omega (arith, near, back.count))) ∙ back.entries l near in
    let a = dual_read g.N.Number.value g.N.Number.limits.dual m (in_layers m D.alpha i j) c.alpha_row-alpha.result.now l c.index-alpha-l.result c.alpha_row-alpha.ensures.row c.index-alpha-l.is within in
    let b = dual_read g.N.Number.value g.N.Number.limits.dual m (in_layers m D.beta k j) c.beta_row-beta.result.now l c.index-beta-l.result c.beta_row-beta.ensures.row c.index-beta-l.is within in
    let is = residual-from_parts I D i k j l f from h to _ _ _ _ _ _ (g.N.Number.value c.left_of-left.result)
    c.facility-facility.ensures.value refl c.facility-other.ensures.value refl a_there distance_there a_back distance_back
    (c.plus.ensures ∙ ap₂ ◌+ℤ◌ c.alpha-own.ensures.value c.beta.ensures.value) (c.plus-in-loop-l.ensures ∙ ap₂ ◌+ℤ◌ a.0 b.0) c.left_of-left.ensures.value in (
      λ t. cc,
      λ fit.
          let met = c.is_met.ensures.1 (λ apart. rw is (fit.below l near apart)) in
          absurd cc,
    )

pub loop-l-preserved : goal.loop-l-preserved
loop-l-preserved g c =
    let I = c.args.instance.now in
    let D = c.args.duals.now in
    let m = length D.facilities in
    let i = c.args.seat.now.0 in
    let k = c.args.seat.now.1 in
    let j = c.args.seat.now.2 in
    let l = c.loop-l.l in
    let f = c.facility-facility.result in
    let h = c.facility-other.result in
    let from = get_or D.locations k 0 in
    let to = get_or D.locations l 0 in
    let duals = c.free-l-end.ensures.duals in
    let within : l < m = omega (arith, c.free-l-end.ensures.value) in
    let near : l < length D.locations = omega (arith, within, duals.same_count) in
    let hf : f < I.size = omega (arith, c.requires.size, c.facility-facility.ensures.within) in
    let hh : h < I.size = omega (arith, c.requires.size, c.facility-other.ensures.within) in
    let hfrom : from < I.size = omega (arith, c.requires.size, duals.locations k c.requires.k_in) in
    let hto : to < I.size = omega (arith, c.requires.size, duals.locations l near) in
    let a_there = scaled_entry-read D.scale c.scale.result c.scaled_entry-a_there.result c.a.result (entry I.size I.a f h) c.scaled_entry-a_there.ensures c.scale.ensures.value c.scale.ensures.duals.scale c.a.ensures.value c.a.ensures.range in
    let a_back = scaled_entry-read D.scale c.scale-2.result c.scaled_entry-a_back.result c.a-2.result (entry I.size I.a h f) c.scaled_entry-a_back.ensures c.scale-2.ensures.value c.scale-2.ensures.duals.scale c.a-2.ensures.value c.a-2.ensures.range in
    let there = c.requires.there in
    let back = c.requires.back in
    let distance_there = reads_entry (get_or c.args.there.now l (pos 0)) (there.range.each l (omega (arith, near, there.count))) ∙ there.entries l near in
    let distance_back = reads_entry (get_or c.args.back.now l (pos 0)) (back.range.each l (omega (arith, near, back.count))) ∙ back.entries l near in
    let a = dual_read g.N.Number.value g.N.Number.limits.dual m (in_layers m D.alpha i j) c.alpha_row-alpha.result.now l c.index-alpha-l.result c.alpha_row-alpha.ensures.row c.index-alpha-l.is within in
    let b = dual_read g.N.Number.value g.N.Number.limits.dual m (in_layers m D.beta k j) c.beta_row-beta.result.now l c.index-beta-l.result c.beta_row-beta.ensures.row c.index-beta-l.is within in
    let is = residual-from_parts I D i k j l f from h to _ _ _ _ _ _ (g.N.Number.value c.left_of-left.result)
    c.facility-facility.ensures.value refl c.facility-other.ensures.value refl a_there distance_there a_back distance_back
    (c.plus.ensures ∙ ap₂ ◌+ℤ◌ c.alpha-own.ensures.value c.beta.ensures.value) (c.plus-in-loop-l.ensures ∙ ap₂ ◌+ℤ◌ a.0 b.0) c.left_of-left.ensures.value in
    below_more _ l c.loop-l.invariant (λ apart. rw (← is) (c.is_met.ensures.0 c.if-not-is_met.false apart))

pub returns : goal.returns
returns g c = (
  λ t. record {
    below = λ l hl kl. c.loop-l.invariant l (omega (arith, c.free-l-end.ensures.value, c.free-l-end.ensures.duals.same_count)) kl;
  },
  λ fit. refl,
)
