use Rattle.std.proofs.Common.{◌≡◌, ℕ, ℤ, List, ◌+◌, ◌-◌, ◌<◌, ◌++◌, ◌∷◌, [], get_or, ap, subst, sym, ◌∙◌, length, arith}
use Rattle.std.specs.Prelude.{◌↔◌, IsTrue}
use Rattle.qap_cost.specs.Instance.{Problem, IsInstance}
use Rattle.qap_cost.specs.Placement.{IsFreeLocation, placing}
use Rattle.qap_cost.specs.Range.{AllInRange}
use Rattle.gilmore_lawler.specs.Duals.{ProductsFit, TellsFit}
use Rattle.gilmore_lawler.specs.FlowRows.{HasDistanceRows}
use Rattle.gilmore_lawler.specs.Split.{Split}
use Rattle.gilmore_lawler.specs.declared.side.Side.TheVariants.{Flow, Distance}
use Rattle.gilmore_lawler.proofs.Splits.{stands, count_of, places_and_free, flows_count, distances_count, child_fits, made_child}
use Rattle.gilmore_lawler.proofs.Tables.{AllInRange-matrix}
use Rattle.gilmore_lawler.proofs.split_rows.SplitRows.fits.Goals as goal

pub place_among-s-requires : goal.place_among-s-requires
place_among-s-requires c =
    let i = c.self.inside in
    let s : Split = record { instance = i.ranked.now; node = i.node.now; facility = i.facility } in
    let at : IsFreeLocation s.node c.args.location = subst (λ (t : Split). IsFreeLocation t.node c.args.location) (sym c.self.view_is) c.requires.location in
    subst (λ (free : List ℕ). (j : ℕ) × (j < length free) × (get_or free j 0 ≡ c.args.location)) (sym c.deref.ensures.value)
    (stands s i.flows.items i.linear.items i.before.places.items i.before.free.items i.before.rows.items _ c.args.location c.self.invariant at)

pub products_fit-requires-clause-width : goal.products_fit-requires-clause-width
products_fit-requires-clause-width c =
    let i = c.self.inside in
    let s : Split = record { instance = i.ranked.now; node = i.node.now; facility = i.facility } in
    let counts = places_and_free s i.flows.items i.linear.items i.before.places.items i.before.free.items i.before.rows.items _ c.self.invariant in
    let size : c.size.result ≡ s.instance.size = c.size.ensures.value ∙ ap (λ (I : Problem). I.size) c.instance-instance.ensures.value in
    let below : c.place_among-s.result < length i.before.free.items = omega (arith, c.place_among-s.ensures.inside, ap length c.deref.ensures.value) in
    omega (arith, counts, size, below, c.depth.ensures.value)

pub products_fit-requires-clause-a_size : goal.products_fit-requires-clause-a_size
products_fit-requires-clause-a_size c =
    let i = c.self.inside in
    let s : Split = record { instance = i.ranked.now; node = i.node.now; facility = i.facility } in
    let at : IsFreeLocation s.node c.args.location = subst (λ (t : Split). IsFreeLocation t.node c.args.location) (sym c.self.view_is) c.requires.location in
    let count : length c.args.u.now + length s.node.facilities + 1 ≡ s.node.size =
    count_of s i.flows.items i.linear.items i.before.places.items i.before.free.items i.before.rows.items _ c.args.location (length c.args.u.now) c.self.invariant at
    (subst (λ (t : Split). length c.args.u.now ≡ t.node.size - (length t.node.facilities + 1)) (sym c.self.view_is) c.requires.u_count) in
    let size : c.size.result ≡ s.instance.size = c.size.ensures.value ∙ ap (λ (I : Problem). I.size) c.instance-instance.ensures.value in
    ap length c.deref-5.ensures.value
    ∙ flows_count s i.flows.items i.linear.items i.before.places.items i.before.free.items i.before.rows.items _ c.args.location (length c.args.u.now) c.size.result c.depth.result c.self.invariant at count size c.depth.ensures.value

pub products_fit-requires-clause-b_size : goal.products_fit-requires-clause-b_size
products_fit-requires-clause-b_size c =
    let i = c.self.inside in
    let s : Split = record { instance = i.ranked.now; node = i.node.now; facility = i.facility } in
    let at : IsFreeLocation s.node c.args.location = subst (λ (t : Split). IsFreeLocation t.node c.args.location) (sym c.self.view_is) c.requires.location in
    let count : length c.args.v.now + length s.node.facilities + 1 ≡ s.node.size =
    count_of s i.flows.items i.linear.items i.before.places.items i.before.free.items i.before.rows.items _ c.args.location (length c.args.v.now) c.self.invariant at
    (subst (λ (t : Split). length c.args.v.now ≡ t.node.size - (length t.node.facilities + 1)) (sym c.self.view_is) c.requires.v_count) in
    let size : c.size.result ≡ s.instance.size = c.size.ensures.value ∙ ap (λ (I : Problem). I.size) c.instance-instance.ensures.value in
    let stands : get_or i.before.free.items c.place_among-s.result 0 ≡ c.args.location = ap (λ (l : List ℕ). get_or l c.place_among-s.result 0) (sym c.deref.ensures.value) ∙ c.place_among-s.ensures.value in
    let made : HasDistanceRows s.instance (i.before.places.items ++ c.args.location ∷ []) c.child_rows.new.table.items =
    made_child s.instance c.instance-instance.result.now i.before.places.items c.deref-2.result.now i.before.free.items c.deref-3.result.now c.place_among-s.result c.args.location c.child_rows.new.table.items
    c.instance-instance.ensures.value c.deref-2.ensures.value c.deref-3.ensures.value stands c.in_ok-child_rows.ensures in
    ap length c.deref-6.ensures.value
    ∙ distances_count s i.flows.items i.linear.items i.before.places.items i.before.free.items i.before.rows.items _ c.args.location (length c.args.v.now) c.size.result c.depth.result c.child_rows.new.table.items c.self.invariant at count size c.depth.ensures.value made

pub products_fit-requires-clause-a_range : goal.products_fit-requires-clause-a_range
products_fit-requires-clause-a_range c =
    subst AllInRange (sym c.deref-5.ensures.value) (c.self.invariant.flows_are.range _ (AllInRange-matrix c.self.inside.ranked.now Flow c.instance-instance.ensures.instance))

pub products_fit-requires-clause-b_range : goal.products_fit-requires-clause-b_range
products_fit-requires-clause-b_range c =
    let instance : IsInstance c.instance-instance.result.now = subst IsInstance (sym c.instance-instance.ensures.value) c.instance-instance.ensures.instance in
    subst AllInRange (sym c.deref-6.ensures.value) (c.in_ok-child_rows.ensures.range _ (AllInRange-matrix c.instance-instance.result.now Distance instance))

pub returns : goal.returns
returns c =
    let i = c.self.inside in
    let s : Split = record { instance = i.ranked.now; node = i.node.now; facility = i.facility } in
    let at : IsFreeLocation s.node c.args.location = subst (λ (t : Split). IsFreeLocation t.node c.args.location) (sym c.self.view_is) c.requires.location in
    let u_count : length c.args.u.now + length s.node.facilities + 1 ≡ s.node.size =
    count_of s i.flows.items i.linear.items i.before.places.items i.before.free.items i.before.rows.items _ c.args.location (length c.args.u.now) c.self.invariant at
    (subst (λ (t : Split). length c.args.u.now ≡ t.node.size - (length t.node.facilities + 1)) (sym c.self.view_is) c.requires.u_count) in
    let v_count : length c.args.v.now + length s.node.facilities + 1 ≡ s.node.size =
    count_of s i.flows.items i.linear.items i.before.places.items i.before.free.items i.before.rows.items _ c.args.location (length c.args.v.now) c.self.invariant at
    (subst (λ (t : Split). length c.args.v.now ≡ t.node.size - (length t.node.facilities + 1)) (sym c.self.view_is) c.requires.v_count) in
    let size : c.size.result ≡ s.instance.size = c.size.ensures.value ∙ ap (λ (I : Problem). I.size) c.instance-instance.ensures.value in
    let stands : get_or i.before.free.items c.place_among-s.result 0 ≡ c.args.location = ap (λ (l : List ℕ). get_or l c.place_among-s.result 0) (sym c.deref.ensures.value) ∙ c.place_among-s.ensures.value in
    let made : HasDistanceRows s.instance (i.before.places.items ++ c.args.location ∷ []) c.child_rows.new.table.items =
    made_child s.instance c.instance-instance.result.now i.before.places.items c.deref-2.result.now i.before.free.items c.deref-3.result.now c.place_among-s.result c.args.location c.child_rows.new.table.items
    c.instance-instance.ensures.value c.deref-2.ensures.value c.deref-3.ensures.value stands c.in_ok-child_rows.ensures in
    let told : IsTrue c.products_fit.result ↔ ProductsFit (c.size.result + c.depth.result + 1) i.flows.items c.child_rows.new.table.items c.args.u.now c.args.v.now =
    subst (λ (b : List ℤ). IsTrue c.products_fit.result ↔ ProductsFit (c.size.result + c.depth.result + 1) i.flows.items b c.args.u.now c.args.v.now) c.deref-6.ensures.value
    (subst (λ (a : List ℤ). IsTrue c.products_fit.result ↔ ProductsFit (c.size.result + c.depth.result + 1) a c.deref-6.result.now c.args.u.now c.args.v.now) c.deref-5.ensures.value c.products_fit.ensures) in
    subst (λ (t : Split). TellsFit t.instance (placing t.node t.facility c.args.location) c.args.u.now c.args.v.now c.products_fit.result) c.self.view_is
    (child_fits s i.flows.items i.linear.items i.before.places.items i.before.free.items i.before.rows.items _ c.args.location c.size.result c.depth.result c.child_rows.new.table.items c.args.u.now c.args.v.now c.products_fit.result c.self.invariant c.instance-instance.ensures.instance at
    u_count v_count size c.depth.ensures.value made told)
