use Rattle.std.proofs.Common.{◌≡◌, ◌^◌, ◌≤◌, length, map, ap, sym, subst, ◌∙◌, ℕ, to_z, of_z}
use Rattle.std.specs.Prelude.{pos, ◌*ℤ◌, unsigned_abs}
use Rattle.std.specs.Int.{w128}
use Rattle.std.proofs.lemmas.List.{length-map}
use Rattle.qap_cost.specs.Placement.{fixed_cost_of}
use Rattle.pair_duals.specs.Start.{AreFirst}
use Rattle.pair_duals.proofs.Forms.{IsFormOf-start}
use Rattle.pair_duals.proofs.Reaches.{fixed_read}
use Rattle.pair_duals.proofs.Steps.{IsStart-made, IsInReach-start}
use Rattle.pair_duals.proofs.reduced.Reduced.start.Goals as goal

pub overflow_mul-value : goal.overflow_mul-value
overflow_mul-value g c = (fixed_read c.args.duals.now.scale c.from.result c.fixed_cost.result c.scale.ensures.duals.scale (c.from.ensures ∙ ap pos c.scale.ensures.value) c.fixed_cost.ensures.bounded).0

pub invariant_of-self : goal.invariant_of-self
invariant_of-self g c =
    let m = g.N.Number.limits in
    let value = g.N.Number.value in
    let I = c.args.instance.now in
    let D = c.args.duals.now in
    let x = c.args.node.now in
    let d = c.scale.ensures.duals in
    let z = to_z w128 (of_z w128 (to_z w128 (of_z w128 c.from.result) *ℤ to_z w128 (of_z w128 c.fixed_cost.result))) in
    let rows = c.in_ok-rows.rows.items in
    let columns = c.in_ok-columns.columns.items in
    let entries = map value c.in_ok-entries.entries.items in
    let read = fixed_read D.scale c.from.result c.fixed_cost.result d.scale (c.from.ensures ∙ ap pos c.scale.ensures.value) c.fixed_cost.ensures.bounded in
    let ez : z ≡ pos D.scale *ℤ fixed_cost_of I x = read.1 ∙ ap (λ y. pos D.scale *ℤ y) c.fixed_cost.ensures.value in
    let first : AreFirst (length D.facilities) rows = subst (λ (n : ℕ). AreFirst n rows) c.free.ensures.value c.in_ok-rows.ensures in
    let second : AreFirst (length D.locations) columns = subst (λ (n : ℕ). AreFirst n columns) (c.free-2.ensures.value ∙ sym d.same_count) c.in_ok-columns.ensures in
    IsInReach-start m I D x z rows columns entries g.met.N.Number.enough d c.requires.in_scale c.requires.node c.requires.size c.requires.duals first second (subst (λ y. unsigned_abs y ≤ 10 ^ 34) (sym read.1) read.2) (length-map c.in_ok-entries.entries.items value ∙ c.in_ok-entries.ensures.length) c.in_ok-entries.ensures.entries

pub returns-clause-start : goal.returns-clause-start
returns-clause-start g c =
    let m = g.N.Number.limits in
    let value = g.N.Number.value in
    let I = c.args.instance.now in
    let D = c.args.duals.now in
    let x = c.args.node.now in
    let d = c.scale.ensures.duals in
    let z = to_z w128 (of_z w128 (to_z w128 (of_z w128 c.from.result) *ℤ to_z w128 (of_z w128 c.fixed_cost.result))) in
    let rows = c.in_ok-rows.rows.items in
    let columns = c.in_ok-columns.columns.items in
    let entries = map value c.in_ok-entries.entries.items in
    let read = fixed_read D.scale c.from.result c.fixed_cost.result d.scale (c.from.ensures ∙ ap pos c.scale.ensures.value) c.fixed_cost.ensures.bounded in
    let ez : z ≡ pos D.scale *ℤ fixed_cost_of I x = read.1 ∙ ap (λ y. pos D.scale *ℤ y) c.fixed_cost.ensures.value in
    let first : AreFirst (length D.facilities) rows = subst (λ (n : ℕ). AreFirst n rows) c.free.ensures.value c.in_ok-rows.ensures in
    let second : AreFirst (length D.locations) columns = subst (λ (n : ℕ). AreFirst n columns) (c.free-2.ensures.value ∙ sym d.same_count) c.in_ok-columns.ensures in
    IsStart-made I D x z rows columns entries d.same_count c.requires.duals first second ez c.in_ok-entries.ensures.entries

pub returns-clause-form : goal.returns-clause-form
returns-clause-form g c = IsFormOf-start c.args.instance.now c.args.duals.now c.args.node.now _ c.requires.node c.requires.size (returns-clause-start g c)
